pub mod Fresh
pub mod Chains
pub mod Sealing
