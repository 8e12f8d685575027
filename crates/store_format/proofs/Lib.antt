pub mod Emptiness
