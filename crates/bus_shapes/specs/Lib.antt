-- What the contracts of this crate cite.
pub mod Sayings
pub mod Sending
pub mod SendingLaws
pub mod Frames
pub mod Later
pub mod LaterLaws
pub mod Headings
pub mod Laws
pub mod inside
