-- What the contracts of this crate cite.
pub mod Plans
pub mod Answers
pub mod Laws
pub mod inside
