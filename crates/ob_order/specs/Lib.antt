pub mod Chains
pub mod Order
pub mod OrderModel
pub mod Works
