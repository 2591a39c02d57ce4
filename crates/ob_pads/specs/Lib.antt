pub mod Seals
pub mod Lives
pub mod Laws
