pub mod Numbers
pub mod Steps
pub mod Distances
pub mod Components
pub mod Labels
