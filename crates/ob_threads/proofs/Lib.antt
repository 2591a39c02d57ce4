pub mod Eaching
pub mod Joining
pub mod Placing
pub mod Sent
pub mod Ordering
