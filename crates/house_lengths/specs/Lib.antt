pub mod Words
pub mod Lengths
