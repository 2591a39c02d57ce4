pub mod Pairing
pub mod Overlapping
