pub mod EditRefusals
pub mod Named
pub mod RefusalCases
pub mod Refusals
