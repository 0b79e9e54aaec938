-- What the code keeps on its way: words that only contracts of private functions and proofs cite.
pub mod Walks
pub mod TimerWalks
pub mod SenderTimers
pub mod Layouts
pub mod Standing
