pub mod Counted
pub mod Listing
pub mod Paired
pub mod Rows
pub mod Visits
pub mod Walked
pub mod Led
pub mod JoinedPlaces
