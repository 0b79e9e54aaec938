-- What the contracts of this crate cite.
pub mod Limits
pub mod Reasons
pub mod Traces
pub mod WordFields
pub mod States
pub mod Runs
pub mod Stops
pub mod Feeding
pub mod Reading
pub mod Pieces
pub mod Windows
pub mod TraceLaws
pub mod inside
