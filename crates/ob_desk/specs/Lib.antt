pub mod Calls
pub mod Causes
pub mod Desk
pub mod Parts
pub mod Replay
pub mod Beats
