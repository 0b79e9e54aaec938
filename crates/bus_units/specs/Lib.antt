-- What the contracts of this crate cite.
pub mod Quantities
pub mod inside
