-- What the contracts of this crate cite.
pub mod Classes
pub mod Styles
pub mod Shapes
pub mod Numbers
pub mod Scales
pub mod Axes
pub mod Legends
pub mod Laws
