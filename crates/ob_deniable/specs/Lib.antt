pub mod Moved
pub mod Works
pub mod Words
pub mod Telling
pub mod Samples
