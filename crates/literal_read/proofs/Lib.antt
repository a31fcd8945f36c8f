pub mod Literals
pub mod OneAnswer
