-- What the contracts of this crate cite.
pub mod Times
pub mod Least
pub mod Rooms
pub mod Margins
pub mod Buses
pub mod Greatest
pub mod Bearing
pub mod Texts
pub mod Laws
pub mod inside
