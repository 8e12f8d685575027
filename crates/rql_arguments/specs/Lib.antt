-- The arguments of a call over many snapshots.
pub mod Calls
pub mod Forms
pub mod Reading
