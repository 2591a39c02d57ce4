pub mod Determined
pub mod Exact
pub mod Told
pub mod Split
pub mod Phased
