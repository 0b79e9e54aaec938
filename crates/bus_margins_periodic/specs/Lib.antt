-- What the contracts of this crate cite.
pub mod Buses
pub mod Least
pub mod Rooms
pub mod Margins
pub mod Bearing
pub mod Texts
pub mod Sentences
pub mod Laws
pub mod inside
