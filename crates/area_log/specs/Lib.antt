pub mod Area
pub mod Cause
pub mod Header
pub mod Listed
pub mod Making
pub mod Regions
pub mod Rewrite
