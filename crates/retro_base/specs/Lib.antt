pub mod Cause
pub mod Device
pub mod Fields
pub mod FirstMet
pub mod Framing
pub mod Gives
pub mod Refusal
