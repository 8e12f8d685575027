-- The scripts of a run.
pub mod Class
pub mod Limits
pub mod Line
pub mod Name
pub mod Rules
pub mod Script
pub mod Text
