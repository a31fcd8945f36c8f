pub mod Closings
pub mod OneAnswer
