pub mod Chunks
pub mod Joining
pub mod Opening
pub mod Sharing
pub mod Stored
pub mod Weaving
