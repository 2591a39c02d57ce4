pub mod Claiming
pub mod Each
mod Gathering
mod Last
mod Left
mod Places
mod Rounding
pub mod Sharing
pub mod SlotReads
mod Taking
mod Whole
pub mod Windows
