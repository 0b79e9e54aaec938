-- What the contracts of this crate cite.
pub mod Groups
pub mod Asked
pub mod Blames
pub mod Bests
