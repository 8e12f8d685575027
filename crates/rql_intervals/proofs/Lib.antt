mod RowSets
mod RunFolds
mod RunLaws
mod Twins
