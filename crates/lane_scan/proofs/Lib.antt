pub mod MarkLaws
pub mod LaneLaws
pub mod ExtentLaws
