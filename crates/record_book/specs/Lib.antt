pub mod StoredSteps
pub mod KeyedItems
pub mod Chains
pub mod Ways
pub mod Cases
pub mod laws
