pub mod Moments
pub mod Listing
pub mod Types
pub mod Keyed
pub mod Borrowed
