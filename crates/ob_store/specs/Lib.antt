pub mod Disk
pub mod Images
pub mod Calls
pub mod Lines
pub mod Pair
pub mod Runs
pub mod Told
