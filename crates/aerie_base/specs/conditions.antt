pub mod Filling
pub mod FillingLaw
pub mod Holding
pub mod Recursion
pub mod RecursionLaws
