pub mod Causes
pub mod Making
pub mod Records
pub mod Runs
