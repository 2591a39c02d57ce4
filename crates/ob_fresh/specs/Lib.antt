pub mod Drawn
pub mod Fresh
pub mod PublicLives
pub mod Samples
