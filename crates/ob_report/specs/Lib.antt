pub mod Summaries
pub mod Report
pub mod Faults
pub mod Gathered
pub mod Pieces
pub mod Printed
pub mod Sizes
