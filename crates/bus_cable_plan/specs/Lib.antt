-- What the contracts of this crate cite.
pub mod Shapes
pub mod Plans
pub mod Known
pub mod Shares
pub mod Answers
pub mod Laws
pub mod Meaning
pub mod inside
