-- The lemmas of this crate; those that a crate above may cite are public.
pub mod Examples
pub mod Orders
pub mod Tops
pub mod Members
pub mod Slack
pub mod Lower
pub mod Moved
pub mod Anew
pub mod Planned
pub mod Valid
pub mod Outcome
pub mod Walking
pub mod Steps
