pub mod Causes
pub mod Logs
pub mod Short
pub mod Sides
pub mod Staying
