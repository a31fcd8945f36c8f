pub mod Lines
pub mod OneAnswer
