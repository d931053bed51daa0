-- Laws of performed sessions.
pub mod Journals
pub mod BranchesApart
pub mod FirstLines
