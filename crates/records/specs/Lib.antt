pub mod Entries
pub mod Finds
pub mod InTurn
pub mod Laws
pub mod Log
pub mod Maplog
pub mod MapReading
pub mod Reading
