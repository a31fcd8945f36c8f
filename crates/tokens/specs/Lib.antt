pub mod Said
pub mod NextTokens
