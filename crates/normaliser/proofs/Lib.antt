pub mod NormalTerms
pub mod Fills
pub mod AnswersTell
pub mod MeaningKept
pub mod OneAnswer
