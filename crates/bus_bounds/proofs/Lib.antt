-- The lemmas of this crate, for crates above it too.
pub mod BoundLaws
