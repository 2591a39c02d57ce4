pub mod Laws
pub mod Serial
pub mod Views
pub mod Vaults
pub mod VaultViews
pub mod VaultKinds
