pub mod Commits
pub mod Drops
pub mod FitSteps
pub mod Fits
pub mod LedgerSteps
pub mod Pinned
