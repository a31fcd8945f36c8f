pub mod Tallies
pub mod Rows
pub mod Entries
pub mod RowsMeasured
