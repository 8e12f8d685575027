pub mod Asked
pub mod Frames
pub mod Laws
pub mod Past
pub mod Transaction
