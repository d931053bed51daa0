pub mod Beginnings
mod MadeFrames
mod Paths
mod PlannedTasks
mod SpansOfFrames
