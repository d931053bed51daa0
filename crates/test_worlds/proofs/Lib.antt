pub mod EmptyPlans
