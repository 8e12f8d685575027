mod Running
pub mod Binding
pub mod Narrow
