-- The lemmas of this crate; those that a crate above may cite are public.
pub mod LaterLemmas
pub mod SayingLemmas
pub mod SendingLemmas
pub mod SendingLaws
