pub mod Courses
pub mod Drivers
pub mod Worlds
pub mod Headlines
pub mod Weaves
pub mod Laws
