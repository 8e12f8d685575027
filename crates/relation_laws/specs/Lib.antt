pub mod Laws
pub mod Needs
pub mod Reach
pub mod Tables
pub mod Turns
pub mod Work
