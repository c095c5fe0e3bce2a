pub mod Indexes
pub mod Chains
pub mod HeadsAndLinks
pub mod NumberLists
pub mod FirstsAndChains
pub mod Buckets
pub mod FirstsAndPlaces
