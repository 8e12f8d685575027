pub mod Climbed
pub mod Following
pub mod OnLeaf
pub mod Walking
