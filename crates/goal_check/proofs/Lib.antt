pub mod ReadTemplates
pub mod ReadGoals
pub mod ArgumentsInTurn
