pub mod OneAnswer
pub mod KindNumbers
pub mod EntryLaws
