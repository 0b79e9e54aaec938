-- What the contracts of this crate cite.
pub mod OnBus
pub mod Seen
pub mod Timers
pub mod Scenes
pub mod Signals
pub mod Lanes
pub mod Doubled
pub mod DumpTexts
pub mod SaveFiles
pub mod Reading
pub mod Stamps
pub mod Laws
pub mod TimerLaws
pub mod SaveLaws
pub mod inside
