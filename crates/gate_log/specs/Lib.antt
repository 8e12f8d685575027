pub mod Appending
pub mod Bodies
pub mod Calls
pub mod Cause
pub mod Framed
pub mod Laws
pub mod Log
pub mod Region
