pub mod Stacked
pub mod Stood
pub mod Counts
