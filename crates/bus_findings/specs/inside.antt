-- Words of private contracts and of proofs.
pub mod Calm
pub mod Standing
pub mod Counting
pub mod Walked
pub mod Sound
pub mod Grown
