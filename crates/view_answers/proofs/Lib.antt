pub mod Asked
pub mod Unknown
pub mod MomentRows
pub mod Happenings
pub mod EdgeList
pub mod ExtentRows
pub mod RecordRows
