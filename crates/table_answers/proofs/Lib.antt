pub mod OneAnswer
pub mod RefusalNumber
