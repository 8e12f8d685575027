pub mod Checked
pub mod Stepwise
pub mod Truths
