pub mod Causes
pub mod Costs
pub mod StoreReading
pub mod Rows
