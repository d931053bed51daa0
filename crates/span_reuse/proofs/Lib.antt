pub mod Frames
pub mod InPlace
pub mod OfRoots
pub mod Placing
pub mod SideBySide
pub mod SomeTasks
pub mod SpansBeside
pub mod ToldAlike
