-- What only contracts of private functions and proofs name: not to be read for what is promised.
pub mod Beginning
pub mod Bounded
pub mod Capped
pub mod Digits
pub mod Drafts
pub mod Parts
pub mod Puts
