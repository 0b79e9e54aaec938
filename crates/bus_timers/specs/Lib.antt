-- What the contracts of this crate cite.
pub mod Timings
pub mod MayStart
pub mod MayStartTest
pub mod GapPlace
pub mod GapLaws
pub mod Told
pub mod Histories
pub mod Wait
pub mod inside
