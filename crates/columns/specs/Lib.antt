pub mod Kinds
pub mod Entries
