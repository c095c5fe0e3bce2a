pub mod Below
pub mod Stands
pub mod Shown
