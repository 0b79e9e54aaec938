-- What the code keeps on its way: words that only contracts of private functions and proofs cite.
pub mod Working
pub mod Pacing
pub mod Banding
pub mod Noting
pub mod Starting
pub mod Marking
