pub mod Heads
pub mod Registers
pub mod Orders
pub mod Laying
pub mod Clear
pub mod Beginning
