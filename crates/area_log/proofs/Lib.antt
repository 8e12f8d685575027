pub mod Areas
pub mod Headers
pub mod Fetches
pub mod Made
pub mod Records
pub mod Rewrites
pub mod Unique
