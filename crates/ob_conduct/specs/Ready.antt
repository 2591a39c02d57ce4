-- What stands between the acts of a run, and what its records are.
use Rattle.std.specs.Prelude.{ℕ, suc, ◌≡◌, ◌⊎◌, ◌<◌, ◌≤◌, ◌+◌, false, All, List, [], length, map, slice_get, Option, Some, None}
use Rattle.std.specs.List.{range_with_len}
use Rattle.std.specs.List.Sorted.{IsStrictlyIncreasing}
use Rattle.ob_base.specs.declared.params.Params.{Params}
use Rattle.ob_base.specs.declared.fault.Fault.TheVariants.{Memory}
use Rattle.ob_serial.specs.Serial.{EpochRecord}
use Rattle.ob_serial.specs.Vaults.{VaultCounts}
use Rattle.ob_order.specs.Works.{Work, version}
use Rattle.ob_order.specs.OrderModel.{IsKept}
use Rattle.ob_desk.specs.Desk.{DeskState, Part}
use Rattle.ob_conduct.specs.Records.{AreWritten, Makes}

-- no key stands in it twice
abbrev pub IsDistinct : List ℕ → Type 0
IsDistinct queue = (i j key : ℕ) → slice_get queue i ≡ Some key → slice_get queue j ≡ Some key → i ≡ j

abbrev pub AreAllBelow : ℕ → List ℕ → Type 0
AreAllBelow n queue = (i key : ℕ) → slice_get queue i ≡ Some key → key < n

-- no key from n on has a version
abbrev pub AreWithin : ℕ → List Work → Type 0
AreWithin n works = (u key : ℕ) → n ≤ key → version works u key ≡ None

-- What always holds of a part: its batches and its writes are ones that a vault takes.
pub record IsFit (p : Params) (part : Part) : Type 0 where
  pub distinct : IsDistinct part.order.queue
  pub below : AreAllBelow p.keys part.order.queue
  pub kept : IsKept p part.order.works
  pub within : AreWithin p.keys part.order.works
  pub even : length part.holders ≡ length part.order.works

-- Between acts: no epoch is closed and no batch in flight, and the desk and the vault are at the same place of the same epoch.
pub record IsBetweenActs (p : Params) (d : DeskState) (c : VaultCounts) : Type 0 where
  pub params : d.setup.params ≡ p
  pub none_closed : d.closed ≡ None
  pub landed : d.running.order.flying ≡ []
  pub epoch : d.running.epoch ≡ suc c.epoch
  pub left : d.running.order.left ≡ c.left
  pub serves : c.spent ≡ false
  pub stop : (d.stop ≡ None) ⊎ (d.stop ≡ Some Memory)
  pub fit : IsFit p d.running

-- The record's tickets rise, and its transactions are of its epoch.
pub record IsOrdered (told : EpochRecord ℕ) : Type 0 where
  pub tickets : IsStrictlyIncreasing (map (λ t. t.ticket) told.txns)
  pub named : All (λ t. t.epoch ≡ told.epoch) told.txns

-- These are the records of the epochs from one number up to another, which had these writes.
pub record TellsEpochs (epoch next : ℕ) (writes : List (List (ℕ × Option (List ℕ)))) (told : List (EpochRecord ℕ)) : Type 0 where
  pub counted : next ≡ epoch + length told
  pub numbered : map (λ r. r.epoch) told ≡ range_with_len epoch (length told)
  pub ordered : All IsOrdered told
  pub written : AreWritten writes told

-- The record of an epoch that the desk closed with these writes.
pub record IsDueRecord (epoch : ℕ) (writes : List (ℕ × Option (List ℕ))) (due : EpochRecord ℕ) : Type 0 where
  pub epoch_is : due.epoch ≡ epoch
  pub ordered : IsOrdered due
  pub makes : Makes writes due
