pub mod Forest
