-- What the contracts of this crate cite.
pub mod Tolerance
pub mod Bearing
pub mod Schedule
pub mod Runs
pub mod Joining
pub mod Settling
pub mod Colliding
pub mod Cables
pub mod Laws
pub mod PeriodicLaws
pub mod Receiving
pub mod Limits
pub mod Latency
pub mod LatencyLaws
