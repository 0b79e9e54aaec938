-- What the contracts of this crate cite.
pub mod Lines
pub mod Fields
pub mod Entries
pub mod Numbers
pub mod Digits
pub mod Refusals
pub mod Gives
pub mod Reasons
pub mod AllOf
pub mod Lasts
pub mod Headers
pub mod Canonical
pub mod inside
