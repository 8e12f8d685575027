pub mod Cases
pub mod EveryLine
pub mod FirstTokens
pub mod Keywords
pub mod OneReading
pub mod OpenTexts
pub mod Runs
pub mod Steps
