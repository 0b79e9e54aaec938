-- What the contracts of this crate cite.
pub mod Recorded
pub mod Amounts
pub mod Lacks
pub mod Dues
pub mod Judging
pub mod Silences
pub mod Terminals
pub mod Texts
pub mod Files
pub mod Laws
pub mod Fronts
pub mod Growing
pub mod Windows
pub mod Meanings
pub mod inside
