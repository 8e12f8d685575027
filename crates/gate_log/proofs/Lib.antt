pub mod Appends
pub mod Fills
pub mod Framing
pub mod Ranges
pub mod Regions
pub mod Results
pub mod Splits
pub mod Unique
