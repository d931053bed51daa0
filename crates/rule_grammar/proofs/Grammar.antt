pub mod Same
pub mod Atoms
pub mod Predictive
pub mod Alike
pub mod Verdicts
