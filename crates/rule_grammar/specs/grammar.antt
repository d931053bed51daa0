pub mod Rules
pub mod Written
pub mod Factored
pub mod Cases
