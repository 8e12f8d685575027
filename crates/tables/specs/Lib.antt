pub mod Laws
pub mod Bound
pub mod Checked
pub mod Fates
pub mod Meaning
pub mod Reworked
pub mod Rows
pub mod Tables
