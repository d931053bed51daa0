pub mod Grammar
pub mod Following
pub mod Answered
pub mod Limited
