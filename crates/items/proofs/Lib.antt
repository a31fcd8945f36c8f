pub mod Runs
pub mod Spots
pub mod Found
pub mod OneAnswer
