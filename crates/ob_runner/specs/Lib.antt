pub mod Meaning
pub mod Turns
pub mod Places
pub mod RunnerViews
pub mod Runners
