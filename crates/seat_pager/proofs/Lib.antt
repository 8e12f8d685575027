pub mod Edits
pub mod Shown
pub mod Reasons
pub mod Refusals
pub mod Looks
pub mod Suffice
