-- What the contracts of this crate cite.
pub mod Votes
pub mod Labels
pub mod Rounds
pub mod VoteTexts
pub mod VoteLaws
pub mod inside
