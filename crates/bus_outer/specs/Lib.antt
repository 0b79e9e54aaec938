-- What the contracts of this crate cite.
pub mod Faults
pub mod Sources
pub mod Sinks
pub mod Memory
pub mod Ahead
pub mod Edge
pub mod Standing
pub mod Waiting
pub mod Texts
pub mod inside
