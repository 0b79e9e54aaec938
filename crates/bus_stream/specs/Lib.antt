-- What the contracts of this crate cite.
pub mod Lines
pub mod Items
pub mod Places
pub mod inside
