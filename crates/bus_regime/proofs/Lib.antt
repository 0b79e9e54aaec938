-- The lemmas of this crate; those that a crate above may cite are public.
pub mod GapPlaces
pub mod Counting
pub mod Examples
pub mod WitnessLaws
pub mod VerdictLaws
pub mod StartingLaws
pub mod GapLaws
