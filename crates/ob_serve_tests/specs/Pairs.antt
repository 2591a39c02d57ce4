-- For tests: two runners that have made no call, and when a desk may be opened.
use Rattle.std.specs.Prelude.{◌≡◌, ◌≤◌, ◌^◌, ℕ, suc, false, All, List, [], map}
use Rattle.ob_base.specs.declared.params.Params.{Params}
use Rattle.ob_serial.specs.Vaults.{VaultCounts}
use Rattle.ob_hall.specs.Passes.{Steps}
use Rattle.ob_driver.specs.Testing.{two_clients}

-- it is this client's, names only the keys of the tests' stores, and has made no call
pub record IsNewPair {U : Type 0} (client bound : U → ℕ) (fits : U → Steps → Type 0) (number : ℕ) (u : U) : Type 0 where
  pub named : client u ≡ number
  pub below : bound u ≤ 8
  pub unsaid : fits u []

-- the runners of the clients 1 and 2
pub record AreTwo {U : Type 0} (client bound : U → ℕ) (fits : U → Steps → Type 0) (runners : List U) : Type 0 where
  pub named : map client runners ≡ two_clients
  pub below : All (λ u. bound u ≤ 8) runners
  pub unsaid : All (λ u. fits u []) runners

-- a vault that serves, over a store of the tests
pub record CanOpen (p : Params) (c : VaultCounts) : Type 0 where
  pub keys : p.keys ≡ 8
  pub serves : c.spent ≡ false
  pub few : c.left ≤ p.batches
  pub low : suc c.epoch ≤ 2 ^ 62
