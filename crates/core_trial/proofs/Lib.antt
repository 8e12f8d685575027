pub mod Wholes
