pub mod Digits
pub mod Instants
pub mod ReadBack
pub mod Stamps
pub mod Texts
pub mod Years
