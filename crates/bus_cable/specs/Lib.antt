-- What the contracts of this crate cite.
pub mod Cables
pub mod Grammar
pub mod Reading
pub mod TextLaws
pub mod Canonical
pub mod Hearing
pub mod HearingLaws
pub mod HeardTexts
pub mod Layouts
pub mod OrderLaws
pub mod inside
