pub mod FillTerms
pub mod FillSteps
pub mod OneAnswer
