pub mod TakenInTurn
