pub mod Tuples
pub mod Models
pub mod Codes
pub mod Runs
