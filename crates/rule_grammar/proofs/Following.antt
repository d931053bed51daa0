pub mod Names
pub mod Sums
pub mod Tested
pub mod Windows
pub mod Constraints
pub mod Templates
pub mod Goals
pub mod Sequences
