-- What only contracts of private functions and proofs name: not to be read for what is promised.
pub mod Capped
