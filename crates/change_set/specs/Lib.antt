pub mod Cases
pub mod Differences
