pub mod Lists
pub mod Names
pub mod Places
pub mod Fair
pub mod Own
