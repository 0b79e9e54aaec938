-- The lemmas of this crate; those that a crate above may cite are public.
pub mod StringLemmas
pub mod ItemLemmas
pub mod GrammarLemmas
pub mod CanonicalLemmas
pub mod OverlapLemmas
pub mod KeptLemmas
pub mod PulsesAlongLaws
pub mod MessageLaws
pub mod MemberLaws
pub mod TestLaws
pub mod ListLaws
pub mod MarkLaws
pub mod CountLaws
pub mod ClearLaws
pub mod ShareLaws
