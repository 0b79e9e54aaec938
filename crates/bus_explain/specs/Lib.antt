-- What the contracts of this crate cite.
pub mod Figures
pub mod Columns
pub mod Senders
pub mod Starts
pub mod Accepted
pub mod Beyond
pub mod Refused
pub mod Advised
pub mod Wholes
pub mod Forms
pub mod Unread
pub mod Laws
pub mod Aligned
