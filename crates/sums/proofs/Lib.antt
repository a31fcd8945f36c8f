pub mod MetTerms
pub mod Sums
pub mod Walking
pub mod Runs
pub mod OneAnswer
