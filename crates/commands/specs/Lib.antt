pub mod Branches
pub mod Edits
pub mod SessionModels
