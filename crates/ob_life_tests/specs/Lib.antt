pub mod Held
pub mod Lived
