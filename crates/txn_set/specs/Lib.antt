pub mod Laws
pub mod Ledger
pub mod PinLaws
pub mod Refused
pub mod WorksFit
