pub mod Cases
pub mod Closeness
pub mod Expanding
pub mod OfModel
pub mod Sending
pub mod Spaced
