pub mod Bridge
pub mod Cases
pub mod Induction
pub mod PlaceForms
pub mod Places
pub mod Recursion
pub mod RecursionLaws
pub mod Sizes
