pub mod Clocks
pub mod Dates
pub mod DayTexts
pub mod Forms
pub mod Ranges
pub mod Starts
