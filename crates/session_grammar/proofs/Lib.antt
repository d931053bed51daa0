pub mod Grammar
pub mod Conforming
pub mod Answered
pub mod Limited
