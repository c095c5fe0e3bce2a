pub mod Parsing
pub mod Left
pub mod Written
pub mod Rows
pub mod Sayable
pub mod Gathering
