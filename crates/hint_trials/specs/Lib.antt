pub mod Reached
pub mod Trials
