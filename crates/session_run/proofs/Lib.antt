pub mod ClientBenches
pub mod Placed
pub mod Replayed
pub mod Telling
pub mod Rounds
pub mod Finished
pub mod Rules
pub mod Threaded
mod sharing
pub mod Reports
pub mod Along
pub mod Counted
pub mod Apart
mod Capped
pub mod FirstLines
