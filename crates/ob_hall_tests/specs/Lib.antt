pub mod Claiming
pub mod Halls
