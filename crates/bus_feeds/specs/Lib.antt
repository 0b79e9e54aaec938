-- What the contracts of this crate cite.
pub mod Feeds
pub mod FeedLaws
