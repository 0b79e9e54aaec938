-- What the contracts of this crate cite.
pub mod Buses
pub mod Entries
pub mod Hearing
pub mod Courses
pub mod Existing
pub mod Windows
pub mod Room
pub mod Rounds
pub mod Settling
pub mod Order
pub mod Growing
pub mod Parts
pub mod Unsettled
pub mod Apart
pub mod Faults
pub mod Needing
