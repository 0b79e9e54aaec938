-- What the contracts of this crate cite.
pub mod Lawful
pub mod Whole
pub mod Faultless
