pub mod RowAnswers
pub mod OneAnswer
