pub mod Archive
pub mod Cause
pub mod Fetching
pub mod Finding
pub mod Laws
pub mod Side
pub mod Slots
