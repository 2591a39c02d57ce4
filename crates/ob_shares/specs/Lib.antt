pub mod Shares
pub mod Seen
