-- The lemmas of this crate; those that a crate above may cite are public.
pub mod FormLemmas
pub mod WordTextLaws
