pub mod Grammar
pub mod Following
pub mod LastToken
