pub mod Fit
pub mod Draws
