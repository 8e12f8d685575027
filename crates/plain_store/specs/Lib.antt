pub mod Frames
pub mod Limits
pub mod Numbers
pub mod Page
pub mod Plain
pub mod Turns
pub mod Work
