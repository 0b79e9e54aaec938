-- The lemmas of this crate; those that a crate above may cite are public.
pub mod Sums
pub mod Most
pub mod LongLemmas
pub mod RoundLemmas
pub mod RunLemmas
pub mod Examples
