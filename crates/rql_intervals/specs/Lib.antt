pub mod Intervals
pub mod RunsSoFar
