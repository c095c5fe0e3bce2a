pub mod Peeled
pub mod Cores
