pub mod Limits
pub mod ModelAnswers
pub mod reading
pub mod grammar
