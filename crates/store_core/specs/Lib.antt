pub mod Calls
pub mod Commits
pub mod Core
pub mod Drops
