pub mod Bits
pub mod Known
pub mod JoinedLiterals
pub mod OneAnswer
