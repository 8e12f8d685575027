pub mod Disks
pub mod History
pub mod Moments
pub mod Plan
