pub mod Counts
pub mod DigitPlaces
pub mod OneAnswer
