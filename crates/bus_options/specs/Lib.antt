-- What the contracts of this crate cite.
pub mod Words
pub mod Keys
pub mod Settings
pub mod Options
pub mod Taken
pub mod Bounding
pub mod Ages
