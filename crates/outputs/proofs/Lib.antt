pub mod Four
pub mod PrintLaws
pub mod OneAnswer
