pub mod OneEntry
pub mod Lining
pub mod WholeCall
pub mod OneAnswer
