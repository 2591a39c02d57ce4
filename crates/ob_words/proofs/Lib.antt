pub mod Locals
pub mod Built
pub mod Top
pub mod Asks
pub mod Passed
pub mod CommandWords
pub mod Named
pub mod Numbers
