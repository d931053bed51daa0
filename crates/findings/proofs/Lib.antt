pub mod ChangedCells
pub mod LeastPairs
pub mod PairSweep
pub mod SettledStates
