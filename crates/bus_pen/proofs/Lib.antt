-- The lemmas of this crate; those that a crate above may cite are public.
pub mod AxisLemmas
pub mod ExactLemmas
pub mod PartedLemmas
pub mod ScaleLemmas
