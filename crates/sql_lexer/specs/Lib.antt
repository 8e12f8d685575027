pub mod Front
pub mod Lexes
pub mod Token
