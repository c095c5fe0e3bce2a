pub mod OnePeeled
pub mod Lowering
pub mod Placing
pub mod Finding
pub mod GraphRows
pub mod WorldCores
pub mod NodeFacts
pub mod CoreRows
