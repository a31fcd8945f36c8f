pub mod Entries
pub mod Checks
pub mod MeasuredAnswers
pub mod OneAnswer
