pub mod Links
pub mod Adjacent
pub mod NodeNames
