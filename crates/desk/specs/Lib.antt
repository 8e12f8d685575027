pub mod Cause
pub mod Desk
pub mod Fetched
pub mod Opening
pub mod Steps
