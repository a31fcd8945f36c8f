pub mod TokenSteps
pub mod OneAnswer
