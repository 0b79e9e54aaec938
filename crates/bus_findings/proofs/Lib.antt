-- The lemmas of this crate.
pub mod AmountLemmas
pub mod SeenLemmas
pub mod LackLemmas
pub mod DueLemmas
pub mod PlaceLemmas
pub mod WalkLemmas
pub mod PlainLemmas
pub mod QuietLemmas
pub mod JudgeLemmas
pub mod HeardLemmas
pub mod WatchLemmas
pub mod SenderLemmas
pub mod SilenceLemmas
pub mod TraceLemmas
pub mod SumLemmas
pub mod JustLemmas
pub mod FileLemmas
pub mod EndLemmas
pub mod FaultLemmas
pub mod MeaningLemmas
mod FrontLists
mod FrontLemmas
mod WindowLemmas
mod GrownLemmas
