-- What the contracts of this crate cite.
pub mod Values
pub mod Verdicts
pub mod Advised
pub mod Bounds
pub mod Margins
pub mod Starts
pub mod Takes
pub mod Senders
pub mod Wrong
pub mod Facts
pub mod inside
