pub mod EditLists
pub mod Ends
pub mod Slots
