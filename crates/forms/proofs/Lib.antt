pub mod Forms
pub mod OneAnswer
