pub mod Signed
pub mod DigitWalk
pub mod OneAnswer
