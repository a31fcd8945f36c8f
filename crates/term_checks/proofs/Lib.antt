pub mod Every
pub mod SizeLaws
pub mod Terms
pub mod OneAnswer
