-- Words of private contracts and of proofs.
pub mod Pieces
pub mod Joining
