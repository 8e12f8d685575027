pub mod Different
pub mod Tables
pub mod Belonging
pub mod Fronts
pub mod Past
