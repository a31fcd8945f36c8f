pub mod Tallies
pub mod OneAnswer
