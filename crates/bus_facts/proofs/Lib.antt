-- The lemmas of this crate; those that a crate above may cite are public.
pub mod Shapes
pub mod Plain
pub mod StartLemmas
pub mod Pushing
pub mod Onto
pub mod PaceLemmas
pub mod TellingLemmas
