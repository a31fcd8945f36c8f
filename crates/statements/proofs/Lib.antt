pub mod Briefs
pub mod MetTerms
pub mod Rows
pub mod Counts
pub mod OneAnswer
