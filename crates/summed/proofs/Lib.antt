pub mod Literals
pub mod SumLaws
pub mod Orders
pub mod OneAnswer
