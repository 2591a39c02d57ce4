pub mod Asked
pub mod Tops
pub mod Halves
pub mod Over
pub mod Behind
pub mod Mirrored
