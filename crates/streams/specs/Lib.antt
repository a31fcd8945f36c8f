pub mod Streamed
pub mod Within
