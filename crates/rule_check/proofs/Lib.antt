pub mod Finding
pub mod RawWindowForms
pub mod WindowForms
pub mod Meant
pub mod MeantWindows
pub mod ReadLaws
pub mod ReadShifts
