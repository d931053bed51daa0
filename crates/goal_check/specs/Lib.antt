pub mod TemplateMeaning
pub mod TemplateRefusals
pub mod GoalRefusals
pub mod GoalMeaning
pub mod GoalAnswers
pub mod GoalReadingCases
