mod ClaimSteps
pub mod Counts
mod Rounds
mod Sums
