pub mod Rises
pub mod OneAnswer
