pub mod Fields
pub mod Marks
pub mod Reading
pub mod Rules
pub mod Written
pub mod Fresh
pub mod ReadBack
