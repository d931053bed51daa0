-- Laws of the workspace and of its journals.
pub mod Histories
pub mod Isolation
pub mod FittingJournals
