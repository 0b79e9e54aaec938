-- What the contracts of this crate cite.
pub mod Limits
pub mod Members
pub mod Messages
pub mod Microseconds
pub mod Shares
pub mod Pulses
pub mod PulseLaws
pub mod Transmissions
pub mod Items
pub mod Grammar
pub mod Reading
pub mod Canonical
pub mod OverlapLaws
pub mod Marking
pub mod inside
