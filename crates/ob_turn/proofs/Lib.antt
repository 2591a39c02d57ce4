pub mod BellSteps
pub mod TurnClosing
pub mod Cuts
pub mod Entries
mod Entering
pub mod Joining
pub mod LongTurn
pub mod Opening
pub mod Prefixes
pub mod Totals
pub mod TurnSteps
