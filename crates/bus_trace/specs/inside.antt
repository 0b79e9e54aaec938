-- What only contracts of private functions and proofs name: not to be read for what is promised.
pub mod Feeds
pub mod Gives
pub mod Looping
pub mod Quick
pub mod Reach
pub mod Sound
pub mod Walking
pub mod Writing
