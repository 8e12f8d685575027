pub mod Balance
pub mod Laws
pub mod Lexing
pub mod Meaning
pub mod Placing
pub mod Saying
