pub mod Workspaces
pub mod Rules
pub mod Locks
pub mod Missions
