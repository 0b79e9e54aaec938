-- The lemmas of this crate.
mod OrderLemmas
mod RowLemmas
mod TurnLemmas
mod AcceptLemmas
mod LawLemmas
mod PageLemmas
mod SyncLemmas
mod BarLemmas
mod TagLemmas
