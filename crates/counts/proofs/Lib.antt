pub mod Counted
pub mod OneAnswer
