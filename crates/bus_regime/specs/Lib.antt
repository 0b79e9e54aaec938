-- What the contracts of this crate cite.
pub mod Gaps
pub mod Ends
pub mod Verdicts
pub mod Lines
pub mod Witness
pub mod Starting
pub mod inside
