pub mod Holding
pub mod OneWay
pub mod PageParts
pub mod Reading
pub mod Refusing
