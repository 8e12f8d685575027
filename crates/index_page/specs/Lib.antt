pub mod Entries
pub mod IndexPage
pub mod Paging
