pub mod Compared
pub mod Layers
pub mod Searches
