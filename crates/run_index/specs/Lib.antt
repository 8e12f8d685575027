pub mod Editing
pub mod Laws
pub mod Leading
pub mod Opens
pub mod Run
pub mod Shaping
pub mod Walk
pub mod Work
