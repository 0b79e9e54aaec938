-- What contracts inside this crate cite.
pub mod Ahead
pub mod Cases
