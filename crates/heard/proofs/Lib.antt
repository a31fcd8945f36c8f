pub mod Split
pub mod Places
pub mod Surveying
pub mod Marking
pub mod Searching
pub mod Heard
pub mod Hearing
pub mod OneAnswer
