pub mod Lent
pub mod Laws
pub mod ExamplesInCode
pub mod OneAnswer
pub mod Promises
