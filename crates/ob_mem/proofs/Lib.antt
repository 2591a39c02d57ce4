pub mod Calls
pub mod Fillings
pub mod Keeping
pub mod Holding
