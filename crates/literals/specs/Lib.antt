pub mod Said
pub mod FileDigits
