pub mod Answering
pub mod Asked
mod Bounding
pub mod Choosing
pub mod Created
pub mod Deciding
pub mod Deleted
pub mod Fitting
pub mod Indexed
pub mod Inserted
pub mod Leading
mod Leaving
pub mod Meaning
pub mod Named
pub mod Picking
pub mod Ran
mod Ranged
mod Readings
pub mod Shortness
mod Sifting
mod Sources
pub mod Steps
mod Summing
pub mod Updated
mod Within
