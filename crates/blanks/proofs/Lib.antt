pub mod At
pub mod Blanks
pub mod Endings
pub mod LfGroups
pub mod OneAnswer
