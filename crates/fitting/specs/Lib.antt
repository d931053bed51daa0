pub mod Fitting
pub mod DecidedJobs
pub mod Cases
