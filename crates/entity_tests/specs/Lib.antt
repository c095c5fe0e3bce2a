pub mod Tests
pub mod Kinds
pub mod Ready
