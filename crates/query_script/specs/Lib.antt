pub mod Refusing
pub mod Order
pub mod WithOnes
pub mod Tables
