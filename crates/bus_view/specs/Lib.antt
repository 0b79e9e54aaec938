-- What the contracts of this crate cite.
pub mod Itself
pub mod Forms
pub mod Refusals
pub mod Due
pub mod Commands
pub mod Acts
pub mod Asked
pub mod Replies
pub mod Asking
pub mod Answering
pub mod Claims
pub mod Keeping
pub mod inside
