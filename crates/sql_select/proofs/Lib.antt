pub mod BoundOutputs
mod Cutting
pub mod Eaches
pub mod Firsts
pub mod Following
pub mod InGroups
pub mod SortKeys
pub mod Sorting
