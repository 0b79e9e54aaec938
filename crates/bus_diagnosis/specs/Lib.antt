-- What the contracts of this crate cite.
pub mod Kinds
pub mod Misfits
pub mod Reaches
pub mod Diagnoses
pub mod Lines
pub mod Sentences
pub mod Whys
pub mod Laws
