pub mod Known
pub mod Counts
pub mod OneAnswer
