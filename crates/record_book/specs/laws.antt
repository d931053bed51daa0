pub mod TakenIn
