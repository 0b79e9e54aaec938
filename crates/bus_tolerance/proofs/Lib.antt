-- The lemmas of this crate.
mod Tolerant
