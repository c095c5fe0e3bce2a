pub mod Runs
pub mod Fused
pub mod Joined
pub mod Lanes
pub mod Counts
