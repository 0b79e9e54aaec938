-- The lemmas of this crate; those that a crate above may cite are public.
mod Standings
mod Aheads
mod Lines
pub mod WriteLaws
pub mod FaultLaws
pub mod TextLaws
