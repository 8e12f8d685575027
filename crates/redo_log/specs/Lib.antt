pub mod Cause
pub mod Laws
pub mod Made
pub mod Redo
pub mod Side
