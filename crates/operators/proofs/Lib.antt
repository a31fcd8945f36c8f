pub mod BoundLaws
pub mod Operators
pub mod OneAnswer
