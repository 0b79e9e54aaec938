-- The lemmas of this crate; those that a crate above may cite are public.
mod OrderLemmas
mod AcceptLemmas
mod FallLemmas
mod ColumnTexts
mod FigureLaws
mod GapTimes
mod RowLengths
pub mod CutLemmas
