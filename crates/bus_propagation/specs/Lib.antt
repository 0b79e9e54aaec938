-- What the contracts of this crate cite.
pub mod Numbered
pub mod Lists
pub mod inside
