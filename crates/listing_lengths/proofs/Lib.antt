pub mod Numbered
pub mod SumLengths
pub mod LineLengths
pub mod FileLengths
pub mod OneAnswer
