pub mod Says
pub mod Found
pub mod OneAnswer
