pub mod Extending
pub mod NotedFrames
mod SharedInstants
pub mod PublishedChapters
pub mod KnownRuns
pub mod Paying
pub mod Making
pub mod OwnIndexes
