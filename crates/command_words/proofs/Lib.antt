pub mod CommandWords
pub mod CommandLaw
pub mod Draws
