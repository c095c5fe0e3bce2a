pub mod Joined
pub mod Pairing
pub mod Sums
pub mod Middles
pub mod Lookups
pub mod Lasts
