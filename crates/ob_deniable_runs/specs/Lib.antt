pub mod Tapes
pub mod RunsDenied
pub mod OtherCalls
pub mod Samples
