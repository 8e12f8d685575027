pub mod Cabinet
pub mod Cause
pub mod Disk
pub mod Moments
pub mod Runs
pub mod Sizes
