pub mod Hands
pub mod JobReads
pub mod Placing
pub mod Rooms
pub mod Rounds
pub mod Shares
pub mod Windows
