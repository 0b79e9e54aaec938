-- The lemmas of this crate; those that a crate above may cite are public.
mod NamedLemmas
mod FieldLemmas
mod BlockLemmas
mod BodyLemmas
mod CanonicalLemmas
mod HearingLemmas
pub mod HearingLaws
pub mod Spent
pub mod Strangers
pub mod Orderly
pub mod Layouts
