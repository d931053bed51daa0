pub mod Answers
pub mod Cases
pub mod Pieces
pub mod Spreads
