-- The lemmas of this crate.
pub mod TimeLemmas
pub mod LeastLemmas
pub mod TellingLemmas
pub mod FitLemmas
pub mod FactLemmas
pub mod Ordering
pub mod WiderLemmas
pub mod Greatest
pub mod BorneLemmas
pub mod BearLemmas
pub mod PlaceLemmas
pub mod Apart
pub mod Roomy
pub mod Levels
