pub mod Lands
pub mod SeveralPuts
