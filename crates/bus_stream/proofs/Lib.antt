-- The lemmas of this crate.
mod WordLemmas
