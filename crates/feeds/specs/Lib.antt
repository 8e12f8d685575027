pub mod Feeds
pub mod ReadError
pub mod Stock
