pub mod Saying
pub mod Waiting
