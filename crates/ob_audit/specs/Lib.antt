pub mod Reader
pub mod Reading
pub mod Spelling
pub mod Traces
pub mod Verdict
