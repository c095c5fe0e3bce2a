pub mod Costs
pub mod Records
mod Timelines
mod Mirroring
