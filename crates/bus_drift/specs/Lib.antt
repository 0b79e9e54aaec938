-- What the contracts of this crate cite.
pub mod Turns
pub mod Room
pub mod Beginning
pub mod InTurn
pub mod Pace
pub mod Plain
pub mod Leading
pub mod Examples
pub mod Neighbours
