pub mod Surveys
pub mod Windows
