pub mod BellCalls
pub mod BellHistory
pub mod History
pub mod TurnCalls
pub mod TurnRule
