pub mod LoadedDirectives
pub mod PlanForms
pub mod ShownPlans
