pub mod Journal
pub mod Marks
pub mod LineFacts
pub mod Lasts
pub mod Replies
pub mod Seating
