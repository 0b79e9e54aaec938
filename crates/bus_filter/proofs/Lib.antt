-- The lemmas of this crate; those that a crate above may cite are public.
mod Folds
mod PutLemmas
mod HearingLemmas
mod TakerLemmas
mod CountLemmas
mod SpanLemmas
mod KeyLemmas
mod WordLemmas
