pub mod Steps
pub mod Clients
pub mod Agreeing
pub mod Records
