pub mod Check
pub mod Names
pub mod Outputs
pub mod Selects
