pub mod OneTerm
pub mod AllTerms
pub mod WeightSums
pub mod OneAnswer
