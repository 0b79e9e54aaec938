-- The lemmas of this crate.
pub mod Bits
mod Steps
pub mod Meaning
pub mod Best
mod Grouped
