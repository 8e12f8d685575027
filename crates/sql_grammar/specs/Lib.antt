pub mod Derivation
pub mod Expected
pub mod Grammar
pub mod Machine
pub mod Table
