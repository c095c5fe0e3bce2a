pub mod Arrival
pub mod Causes
pub mod Cost
pub mod Blocks
pub mod Runs
pub mod Endings
