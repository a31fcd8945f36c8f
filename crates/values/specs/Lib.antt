pub mod Strings
pub mod Reads
