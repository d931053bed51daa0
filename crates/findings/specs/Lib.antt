pub mod Found
pub mod MeetingPairs
pub mod PairSweep
pub mod Cases
pub mod SettledStates
