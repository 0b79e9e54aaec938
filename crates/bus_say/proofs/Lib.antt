-- The lemmas of this crate.
mod SentenceLemmas
