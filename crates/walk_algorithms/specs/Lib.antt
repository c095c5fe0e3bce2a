pub mod Counted
pub mod Paired
pub mod Degrees
pub mod Visits
pub mod Parts
pub mod WalkRows
