-- The lemmas of this crate.
mod Members
mod Takes
mod Strings
mod Feeding
