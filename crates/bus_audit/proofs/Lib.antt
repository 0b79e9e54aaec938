-- The lemmas of this crate; those that a crate above may cite are public.
pub mod Lists
pub mod Entries
pub mod Pairs
pub mod Telling
pub mod Silence
pub mod Standing
pub mod Going
pub mod Watching
pub mod Keeping
pub mod Starting
pub mod Meanings
pub mod ObservedLemmas
pub mod StatedLemmas
pub mod Once
pub mod Computed
pub mod Observed
