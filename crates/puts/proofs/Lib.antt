pub mod LandLaws
pub mod SeveralLaws
pub mod OneAnswer
