pub mod Brief
pub mod Said
pub mod Fitting
pub mod Met
pub mod Walked
