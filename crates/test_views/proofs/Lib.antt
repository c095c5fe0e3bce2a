pub mod StoredAgain
