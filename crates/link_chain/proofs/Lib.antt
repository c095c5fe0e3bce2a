pub mod ChainLaws
pub mod BucketLaws
pub mod NumberLaws
mod ChainWalks
mod ChainGrowth
mod ChainResults
mod BucketRuns
mod BucketMoves
mod BucketResults
mod NumberResults
