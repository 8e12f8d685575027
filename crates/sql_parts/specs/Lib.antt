pub mod PartCode
pub mod Taking
