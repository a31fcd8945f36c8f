pub mod StepAnswers
pub mod OneAnswer
