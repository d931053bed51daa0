pub mod BySpans
pub mod Positions
pub mod Shifts
pub mod SpacedNames
pub mod TimeOrders
pub mod Values
