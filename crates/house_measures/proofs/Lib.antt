pub mod TermsWalk
pub mod Entries
pub mod RowsWalk
pub mod OneAnswer
