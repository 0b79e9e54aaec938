-- What the contracts of this crate cite.
pub mod Texts
pub mod Parts
pub mod Streams
pub mod Looks
pub mod Standing
pub mod Lines
