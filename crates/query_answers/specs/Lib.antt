pub mod Asks
pub mod Refusing
pub mod Blocks
pub mod Cost
