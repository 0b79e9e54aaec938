-- The lemmas of this crate.
pub mod Apart
pub mod Orders
pub mod Levels
pub mod Designs
pub mod Plans
pub mod Made
pub mod Ages
