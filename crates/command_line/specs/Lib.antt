pub mod Cases
pub mod Commands
pub mod Grammar
pub mod Invocations
pub mod WrittenLines
