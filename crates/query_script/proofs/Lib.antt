pub mod Items
pub mod Words
pub mod Lines
pub mod Judged
pub mod Kept
pub mod Ones
pub mod Alike
