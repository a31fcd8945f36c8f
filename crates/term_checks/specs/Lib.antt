pub mod Sizes
pub mod TermTests
