pub mod Room
pub mod Jobs
pub mod Kept
pub mod Only
pub mod Ways
pub mod LoopWays
