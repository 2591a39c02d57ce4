pub mod Lifted
pub mod Parts
