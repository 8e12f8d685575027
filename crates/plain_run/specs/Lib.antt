pub mod Still
pub mod Turns
