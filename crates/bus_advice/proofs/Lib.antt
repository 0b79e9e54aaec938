-- The lemmas of this crate; those that a crate above may cite are public.
mod Searches
pub mod IntervalLaws
mod Members
mod CycleChange
mod Changing
mod GapChange
mod LineChange
mod GapCounts
mod FirstGap
mod Widening
mod TurnSteps
mod Planning
mod StartChange
mod StartSteps
mod Working
mod Missing
