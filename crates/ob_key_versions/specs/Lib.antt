pub mod Agendas
pub mod Chains
pub mod Tables
