pub mod FillLines
pub mod Files
pub mod OneAnswer
