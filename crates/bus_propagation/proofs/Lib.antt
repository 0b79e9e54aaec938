-- The lemmas of this crate; those that a crate above may cite are public.
pub mod HearingLemmas
pub mod ArrivalLemmas
pub mod LookingLemmas
pub mod RestLemmas
pub mod NextLemmas
pub mod SeatingLemmas
pub mod TurnLemmas
pub mod RunLemmas
pub mod NumberedLemmas
