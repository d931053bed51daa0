pub mod Diagnostics
pub mod FirstTold
pub mod NameLists
pub mod RepeatedNames
pub mod ShortNumbers
pub mod NotedInTurn
pub mod Iterations
pub mod DiagnosticCases
