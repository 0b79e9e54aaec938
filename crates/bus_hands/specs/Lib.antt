-- What the contracts of this crate cite.
pub mod Dealt
pub mod Holds
pub mod inside
