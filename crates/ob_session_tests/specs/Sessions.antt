-- For tests: the pass of a client of the tests' halls that has made no call, and when a desk may be opened.
use Rattle.std.specs.Prelude.{◌≡◌, ◌≤◌, ◌^◌, suc, false}
use Rattle.ob_base.specs.declared.params.Params.{Params}
use Rattle.ob_serial.specs.Vaults.{VaultCounts}
use Rattle.ob_hall.specs.Passes.{Hall, Pass, opening_of}
use Rattle.ob_hall.specs.Calling.{IsReady, IsBetween}

-- it may begin, at a hall of the tests' keys
pub record IsSession (hall : Hall) (pass : Pass) : Type 0 where
  pub ready : IsReady hall pass
  pub between : IsBetween pass
  pub keys : 8 ≤ (opening_of hall).setup.params.keys

-- a vault that serves, over a store of the tests
pub record ServesDesks (p : Params) (c : VaultCounts) : Type 0 where
  pub keys : p.keys ≡ 8
  pub serves : c.spent ≡ false
  pub few : c.left ≤ p.batches
  pub low : suc c.epoch ≤ 2 ^ 62
