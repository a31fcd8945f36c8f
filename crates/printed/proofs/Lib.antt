pub mod Differences
pub mod PrintedRows
pub mod PrintedTexts
pub mod OneEntry
pub mod OneAnswer
