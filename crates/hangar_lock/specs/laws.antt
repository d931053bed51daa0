-- Laws of the work of clients with passes of one lock.
pub mod ClientsWork
pub mod JoinedPasses
