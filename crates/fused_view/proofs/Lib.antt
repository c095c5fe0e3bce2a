pub mod Merged
pub mod Joining
pub mod LaneWorlds
pub mod Counting
