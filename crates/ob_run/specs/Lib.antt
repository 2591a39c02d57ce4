pub mod Woven
pub mod Ends
pub mod Crews
pub mod Serving
pub mod Threaded
