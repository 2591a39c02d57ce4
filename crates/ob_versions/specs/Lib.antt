pub mod Index
pub mod Ledgers
