-- What the contracts of this crate cite.
pub mod Breaches
pub mod Meaning
pub mod Lines
pub mod Observed
pub mod inside
