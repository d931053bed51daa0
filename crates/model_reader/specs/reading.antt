pub mod ReadingCases
pub mod Expressions
pub mod Items
pub mod Literals
pub mod Models
pub mod Names
pub mod Statements
pub mod Types
