-- What a pass backward and a pass forward know of the places at which a text can be cut.
pub mod Places
