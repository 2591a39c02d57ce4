pub mod Fills
pub mod Runs
pub mod Histories
pub mod Filled
pub mod Laws
pub mod Samples
pub mod Texts
