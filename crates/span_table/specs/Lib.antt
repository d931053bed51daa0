pub mod AsDefined
pub mod Begun
pub mod BodyStates
pub mod KnownTasks
pub mod Ordering
pub mod PlannedSpans
pub mod Progress
pub mod SpanLaws
