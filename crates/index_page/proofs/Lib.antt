pub mod Halving
pub mod Ordered
pub mod Packing
pub mod Placing
pub mod Taking
