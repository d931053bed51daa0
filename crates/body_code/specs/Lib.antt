pub mod FlatCode
pub mod Denoting
pub mod ModelCodes
pub mod Cases
