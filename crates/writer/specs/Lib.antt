pub mod Entries
pub mod SecondWalk
pub mod Writes
