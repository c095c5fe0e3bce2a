pub mod Gathered
pub mod Holding
pub mod Listing
pub mod Shown
