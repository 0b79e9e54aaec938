-- What the code keeps on its way: words that only contracts of private functions and proofs cite.
pub mod Drawing
pub mod Surveying
pub mod Loading
pub mod Marking
pub mod Bounds
pub mod Beginning
pub mod Seeking
