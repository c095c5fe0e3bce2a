pub mod Command
pub mod CommandForms
pub mod Generator
