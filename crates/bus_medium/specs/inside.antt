-- What the code keeps on its way: words that only contracts of private functions and proofs cite.
pub mod Places
pub mod Standing
pub mod Seating
pub mod Following
pub mod Lasting
pub mod Runs
pub mod Lazy
pub mod Starting
