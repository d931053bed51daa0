-- Laws of what clients do and of what is told of it.
pub mod ClientsWork
pub mod BranchIds
