pub mod Brief
pub mod Met
pub mod Walked
pub mod Run
