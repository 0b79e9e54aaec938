-- What the contracts of this crate cite.
pub mod Takes
pub mod Matrix
