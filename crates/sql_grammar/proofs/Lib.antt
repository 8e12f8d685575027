pub mod Classes
pub mod Finishing
pub mod Stack
pub mod Steps
pub mod Tables
