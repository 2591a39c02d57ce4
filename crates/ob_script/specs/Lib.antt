pub mod Drill
pub mod Integers
pub mod Script
pub mod ScriptViews
pub mod Reading
