pub mod Ends
pub mod Shown
pub mod Callers
pub mod Alone
pub mod Served
pub mod ScriptLaws
pub mod Lone
pub mod Sums
