pub mod Literals
pub mod PieceLaws
pub mod Rows
pub mod WholeLine
pub mod OneAnswer
