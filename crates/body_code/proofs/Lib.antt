pub mod FlatForms
pub mod Lengths
pub mod DenotingCode
pub mod JumpingCode
pub mod CodeOfBody
pub mod Rooms
pub mod Patches
pub mod ModelBodies
