pub mod Scripts
pub mod Blocks
pub mod OneOutput
pub mod ArrivalOrder
pub mod Outputs
pub mod Counted
pub mod Sizes
