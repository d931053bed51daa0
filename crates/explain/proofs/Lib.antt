pub mod Braces
pub mod Cutting
pub mod LineSteps
pub mod Whole
