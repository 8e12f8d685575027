pub mod Gatherings
pub mod GroupFolds
pub mod GroupRows
pub mod Parts
pub mod SameColumns
pub mod TableRows
pub mod Tallies
