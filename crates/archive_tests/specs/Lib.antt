pub mod OnMemDisks
