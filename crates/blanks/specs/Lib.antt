pub mod FirstLf
