-- What is counted of a performed session, and the line that tells it.
pub mod Summaries
pub mod SummaryLines
