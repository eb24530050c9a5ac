pub mod Prepared
pub mod Rules
