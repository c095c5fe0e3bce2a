pub mod Digits
pub mod Texts
pub mod Signed
pub mod Marks
pub mod Fields
