pub mod Agendas
pub mod Compares
pub mod Counted
pub mod Unlinks
