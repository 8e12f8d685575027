pub mod Drafting
pub mod Fitting
pub mod Sorts
