-- What only contracts of this crate's own functions say.
pub mod Places
