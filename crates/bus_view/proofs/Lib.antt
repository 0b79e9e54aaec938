-- The lemmas of this crate; those that a crate above may cite are public.
pub mod FormLemmas
pub mod WindowLemmas
pub mod PaintLemmas
pub mod SaveLemmas
pub mod PageLaws
pub mod AnswerLaws
mod ReplyLemmas
pub mod ViewClaims
