pub mod Bodies
pub mod Cause
pub mod Log
