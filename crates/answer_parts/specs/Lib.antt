pub mod WorldPart
