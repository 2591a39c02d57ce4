-- The ranges of a store's parameters.
use Rattle.std.specs.Prelude.{ℕ, ◌*◌, ◌^◌, ◌≤◌}

-- Each parameter is in its range, and there are at most as many keys as real slots of the leaves.
pub record AreInRange (keys levels real dummies batches places writes evictions room : ℕ) : Type 0 where
  pub some_keys : 1 ≤ keys
  pub few_keys : keys ≤ 65536
  pub some_levels : 1 ≤ levels
  pub few_levels : levels ≤ 16
  pub some_real : 1 ≤ real
  pub few_real : real ≤ 16
  pub some_dummies : 1 ≤ dummies
  pub few_dummies : dummies ≤ 32
  pub some_batches : 1 ≤ batches
  pub few_batches : batches ≤ 16
  pub some_places : 1 ≤ places
  pub few_places : places ≤ 64
  pub some_writes : 1 ≤ writes
  pub few_writes : writes ≤ 256
  pub some_evictions : 1 ≤ evictions
  pub few_evictions : evictions ≤ 64
  pub some_room : 1 ≤ room
  pub few_room : room ≤ 1024
  pub keys_fit : keys ≤ real * 2 ^ levels
