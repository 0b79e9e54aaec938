-- The lemmas of this crate; those that a crate above may cite are public.
pub mod LengthLemmas
pub mod FormLemmas
pub mod LastLemmas
pub mod WholeLemmas
pub mod LineLemmas
pub mod ReadingLemmas
pub mod TextLemmas
pub mod AgainLemmas
pub mod StepLemmas
pub mod StopLemmas
mod GoingLemmas
mod SampleLemmas
mod MayStandLaws
pub mod AnswerLemmas
pub mod RankLemmas
pub mod KeyLemmas
pub mod SeenLemmas
pub mod TurnedLemmas
pub mod FitLemmas
pub mod NewLemmas
pub mod HandLemmas
pub mod HandFits
pub mod OffsetLemmas
pub mod CanonicalLemmas
pub mod TurnLaws
pub mod OffsetLaws
pub mod PeriodicLaws
pub mod FillingLaws
mod FewNumbers
pub mod PartLaws
pub mod ValidLaws
pub mod FitLaws
pub mod TerminalLaws
pub mod SizeLaws
