-- What the contracts of this crate cite.
pub mod Designs
pub mod Orders
pub mod Wishes
pub mod Answers
pub mod Texts
pub mod inside
