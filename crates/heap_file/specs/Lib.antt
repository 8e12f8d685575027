pub mod Chain
pub mod Filling
pub mod HeapPage
pub mod Laws
pub mod Route
pub mod Sieving
pub mod Work
