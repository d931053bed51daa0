pub mod Fetched
pub mod FewAccepted
pub mod OneModel
