pub mod Outside
pub mod MemoryFiles
pub mod CallCount
pub mod InMemory
