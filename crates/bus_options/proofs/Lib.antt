-- The lemmas of this crate.
mod PlaceLemmas
mod ReadLemmas
mod AgeLemmas
pub mod PlainLaws
