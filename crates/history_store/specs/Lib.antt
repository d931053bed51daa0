pub mod Publishing
pub mod Learning
pub mod laws
pub mod Sharing
pub mod Cases
