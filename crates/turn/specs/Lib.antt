pub mod Faults
pub mod Meanings
pub mod Plays
pub mod Queue
pub mod Rule
pub mod Seats
pub mod Views
pub mod Tables
