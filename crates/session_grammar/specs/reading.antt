pub mod Directives
pub mod Commands
pub mod Mappings
pub mod Plans
pub mod Sections
pub mod Sessions
pub mod SessionCases
