-- What the code keeps on its way: words that only contracts of private functions and proofs cite.
pub mod Dealing
pub mod Placed
