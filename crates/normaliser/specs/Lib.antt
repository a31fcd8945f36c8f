pub mod Fill
pub mod Normalises
pub mod Meant
