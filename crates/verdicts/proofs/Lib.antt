pub mod VerdictLaws
pub mod OneAnswer
