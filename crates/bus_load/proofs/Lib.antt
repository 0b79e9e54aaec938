-- The lemmas of this crate; those that a crate above may cite are public.
mod JoinLemmas
mod PulseLemmas
mod CountLemmas
