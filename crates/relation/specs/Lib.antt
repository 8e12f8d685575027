pub mod Catalog
pub mod CatalogRow
pub mod Each
pub mod Entries
pub mod Named
pub mod Sieving
pub mod Work
