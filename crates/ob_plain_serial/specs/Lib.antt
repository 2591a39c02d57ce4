pub mod VaultRuns
