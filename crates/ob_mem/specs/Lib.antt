pub mod Heard
pub mod Laws
pub mod Plan
pub mod Replay
pub mod Memory
