-- The lemmas of this crate.
mod DueLemmas
mod ItemLemmas
mod LineLemmas
mod ListLemmas
mod PartLemmas
mod StateLemmas
