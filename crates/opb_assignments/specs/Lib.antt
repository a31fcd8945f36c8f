pub mod ByValue
pub mod Calls
