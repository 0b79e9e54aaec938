-- The lemmas of this crate.
mod DealLemmas
