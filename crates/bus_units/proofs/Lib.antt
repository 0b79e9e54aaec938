-- The lemmas of this crate.
mod Ends
