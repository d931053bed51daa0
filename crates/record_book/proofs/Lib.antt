pub mod LastWith
pub mod Walks
pub mod Chaining
pub mod Holding
pub mod Probing
pub mod RunRecords
pub mod Indexing
