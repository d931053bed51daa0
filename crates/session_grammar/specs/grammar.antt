pub mod Rules
pub mod Terminals
pub mod Embedding
pub mod Written
pub mod Factored
pub mod Cases
