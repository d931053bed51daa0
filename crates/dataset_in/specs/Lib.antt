pub mod Datasets
pub mod Levels
pub mod Series
