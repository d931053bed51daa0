pub mod Left
pub mod Putting
pub mod Roots
pub mod Telling
