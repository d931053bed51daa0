pub mod Names
pub mod Literals
pub mod Types
pub mod Expressions
pub mod Statements
pub mod Items
pub mod Models
