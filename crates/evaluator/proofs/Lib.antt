pub mod Judged
pub mod Meant
pub mod AllKnown
pub mod Agree
pub mod OneAnswer
