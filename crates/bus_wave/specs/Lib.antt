-- What the contracts of this crate cite.
pub mod Code
pub mod Reasons
pub mod Waves
pub mod WaveTexts
pub mod Spacing
pub mod Counted
pub mod Symbols
pub mod Judging
pub mod Reading
pub mod WaveLaws
pub mod inside
