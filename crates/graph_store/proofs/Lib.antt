mod Joined
mod PairLaws
mod HeldLaws
mod Results
pub mod Listed
pub mod LinkLaws
mod KeyLaws
mod NumberLaws
mod FiledLaws
mod StoreLaws
mod AcceptNode
mod AcceptEdge
mod TypeLaws
pub mod Readers
pub mod JudgeLaws
mod TakeNode
pub mod EdgeNames
mod FiledNumbers
pub mod NumbersStay
mod EdgeNumbers
mod InLayer
mod RoomLaws
mod LawfulLaws
mod TakeEdge
mod ApplyLaws
mod HistoryLaws
mod StoreRead
mod NewStore
mod AcceptType
mod TakeType
mod TypeReaders
