pub mod KeyText
pub mod Pads
pub mod Pieces
pub mod Seals
pub mod Sealing
pub mod Damage
pub mod Draws
