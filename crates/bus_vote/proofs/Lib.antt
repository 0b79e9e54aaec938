-- The lemmas of this crate; those that a crate above may cite are public.
pub mod VotingLemmas
pub mod ScanLemmas
pub mod RoundLemmas
pub mod WalkLemmas
pub mod PaceLemmas
pub mod PutLemmas
pub mod WrittenLemmas
pub mod HandLemmas
pub mod TurnLemmas
pub mod RunLemmas
pub mod FindLemmas
pub mod HearingLemmas
