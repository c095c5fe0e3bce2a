pub mod QueryBlocks
pub mod QueryCosts
pub mod SweepCosts
