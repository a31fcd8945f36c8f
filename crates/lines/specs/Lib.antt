pub mod LinePieces
pub mod Ended
