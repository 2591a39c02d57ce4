pub mod Asking
pub mod Afterwards
pub mod Inside
