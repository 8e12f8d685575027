mod Conditions
mod Expressions
mod Places
pub mod Fitting
