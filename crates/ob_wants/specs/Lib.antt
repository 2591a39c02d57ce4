pub mod Counted
pub mod Marked
pub mod Occasions
pub mod Rows
pub mod Seen
pub mod Shown
pub mod Visits
