pub mod Stages
pub mod Fetches
