-- What the contracts of this crate cite.
pub mod Changes
pub mod Search
pub mod Advices
pub mod Laws
pub mod inside
