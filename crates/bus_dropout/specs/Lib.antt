-- What the contracts of this crate cite.
pub mod DropOut
pub mod Runs
pub mod Laws
