pub mod Ready
pub mod Meanings
pub mod Makes
