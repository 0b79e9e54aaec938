-- What the contracts of this crate cite.
pub mod Labels
pub mod Times
pub mod Sentences
