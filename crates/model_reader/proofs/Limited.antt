pub mod Keeping
pub mod Lists
pub mod Literals
pub mod Expressions
pub mod Statements
pub mod Items
pub mod Models
pub mod Tokens
