-- What only contracts of private functions and proofs name: not to be read for what is promised.
pub mod Finds
pub mod Putting
pub mod Scans
pub mod Walks
