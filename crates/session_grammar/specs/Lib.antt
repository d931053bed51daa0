pub mod SessionAnswers
pub mod SessionLimits
pub mod grammar
pub mod reading
