pub mod Adding
pub mod Apart
pub mod Caches
pub mod Counts
pub mod Steps
