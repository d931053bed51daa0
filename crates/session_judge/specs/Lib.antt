pub mod Accepted
pub mod FirstRefused
pub mod Judging
pub mod OfModels
pub mod Rules
pub mod Telling
