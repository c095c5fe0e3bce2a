pub mod Point
pub mod Moments
pub mod Costs
pub mod Edges
pub mod Extents
pub mod Records
