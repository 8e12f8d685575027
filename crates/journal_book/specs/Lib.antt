pub mod Book
pub mod Works
