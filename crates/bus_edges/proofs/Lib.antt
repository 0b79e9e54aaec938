-- The lemmas of this crate.
mod Rounding
mod Margins
