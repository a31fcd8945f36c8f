pub mod PlainTests
pub mod PlainAnswers
pub mod PlainTerms
pub mod OneAnswer
pub mod Examples
