pub mod Parts
pub mod Expressions
pub mod Forms
pub mod Statements
pub mod Models
