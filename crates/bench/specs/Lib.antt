pub mod Benches
pub mod HeldSteps
pub mod Noting
pub mod Stocks
pub mod Settings
pub mod Chapters
pub mod Cases
