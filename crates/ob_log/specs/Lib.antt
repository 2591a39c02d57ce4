pub mod Appends
pub mod Laws
pub mod Logs
pub mod Places
pub mod Reads
