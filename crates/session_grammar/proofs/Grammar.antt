pub mod Predictive
pub mod Alike
pub mod Verdicts
pub mod Models
