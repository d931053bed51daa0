pub mod FormLaws
pub mod Telling
pub mod Signs
pub mod Steady
pub mod There
pub mod WakeLaws
pub mod Sums
