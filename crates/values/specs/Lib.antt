pub mod Name
pub mod Row
pub mod Text
pub mod Value
