pub mod Comments
pub mod OneAnswer
