-- The lemmas of this crate.
mod Ticks
mod Keeping
mod Clean
mod Local
mod Firsts
mod Whole
mod Audited
mod Faultless
