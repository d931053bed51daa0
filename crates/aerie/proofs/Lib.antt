pub mod Handing
pub mod InputReads
pub mod Outputs
