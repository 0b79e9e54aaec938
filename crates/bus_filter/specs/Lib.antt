-- What the contracts of this crate cite.
pub mod Received
pub mod ReceivedTexts
pub mod Hearing
pub mod FilterLaws
pub mod inside
