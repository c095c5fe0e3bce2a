pub mod ReadAgain
pub mod Sayings
pub mod Accepted
pub mod Shown
pub mod Together
