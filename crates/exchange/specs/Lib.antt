-- Document 02 (v), about functions that make the calls.
pub mod Exchange
