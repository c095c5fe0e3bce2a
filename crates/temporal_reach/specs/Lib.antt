pub mod Reaching
pub mod Offers
pub mod Search
pub mod Arrivals
pub mod Mirrors
