-- What the contracts of this crate cite.
pub mod Even
pub mod Uneven
pub mod Closed
pub mod Live
pub mod Runs
pub mod CableRuns
pub mod Settled
pub mod Laws
pub mod Limits
pub mod Slack
pub mod inside
