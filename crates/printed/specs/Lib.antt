pub mod Kinds
pub mod Bounds
pub mod Rows
