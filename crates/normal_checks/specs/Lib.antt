pub mod FirstWalk
pub mod Said
