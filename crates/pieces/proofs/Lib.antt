pub mod Terms
pub mod OneAnswer
