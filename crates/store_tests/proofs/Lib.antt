pub mod LastSeats
pub mod Stepping
