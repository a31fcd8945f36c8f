pub mod PartForms
pub mod Lanes
pub mod InWord
