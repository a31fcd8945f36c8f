pub mod Files
pub mod OneAnswer
