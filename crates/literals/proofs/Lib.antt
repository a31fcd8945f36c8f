pub mod Conversions
pub mod Numbered
pub mod OneAnswer
