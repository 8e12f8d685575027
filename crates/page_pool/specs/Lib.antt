pub mod Cause
pub mod Clean
pub mod Frames
pub mod Side
