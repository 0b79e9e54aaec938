-- The lemmas of this crate.
mod MisfitLemmas
mod CaseLemmas
mod ReachLemmas
mod LawLemmas
