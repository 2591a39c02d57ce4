pub mod Drills
pub mod Amounts
pub mod Cuts
pub mod Lines
pub mod MoreLines
pub mod Numbers
pub mod OneReading
pub mod Sound
