pub mod Filling
pub mod WindowSwept
