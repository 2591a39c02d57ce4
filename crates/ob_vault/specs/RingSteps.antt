-- Where a vault over a ring store is behind calls that were answered, in the words of its kind of store.
use Rattle.std.specs.Prelude.{ℕ, suc, ◌≡◌, ◌+◌, ◌*◌, ◌≤◌, false, List, length}
use Rattle.std.specs.Ordering.{nat_cmp}
use Rattle.ob_base.specs.Layout.{checkpoint_cells, record_cells}
use Rattle.ob_base.specs.Tree.{buckets, width}
use Rattle.ob_base.specs.declared.params.Params.{Params}
use Rattle.ob_tables.specs.Content.{Content}
use Rattle.ob_fetch.specs.declared.run.Run.{Run}
use Rattle.ob_fetch.specs.Fetches.{RunIsAt}
use Rattle.ob_log.specs.Logs.{BatchRecord}
use Rattle.ob_recover.specs.Known.{public_of_kept}
use Rattle.ob_vault.specs.RingVaults.{HasPlanned, RingCalled, RingHolds, Running}
use Rattle.ob_seal.specs.declared.keys.Keys.{Keys}
use Rattle.ob_serial.specs.Serial.{Map}
use Rattle.ob_serial.specs.VaultKinds.{Kind}
use Rattle.ob_serial.specs.Vaults.{VaultAnswer, VaultCall, VaultState}
use Rattle.ob_stand.specs.Stands.{RingStanding}
use Rattle.ob_store.specs.Disk.{Disk}
use Rattle.ob_store.specs.declared.watch.Note.{Note}
use Rattle.ob_vault.specs.Causes.{seals_an_epoch, words_an_epoch}
use Rattle.ob_vault.specs.Hidden.{RingHidden}
use Rattle.ob_vault.specs.RingKind.{IsRingMap, RingFound}
use Rattle.ob_vault.specs.Seen.{RingPublic}

-- The words of a vault are those of a vault over a ring store, which runs with this.
pub record HasRingWords {V S : Type 0} (k : Kind V) (disk : S → Disk) (runs : V → Running S) : Type 0 where
  pub called : (v : V) (call : VaultCall) (answer : VaultAnswer) (notes : List Note) (w : V) → k.called v call answer notes w → RingCalled disk (runs v) (runs w) notes call answer
  pub holds : (v : V) (u : VaultState) → k.holds v u → RingHolds (runs v).run (disk (runs v).store) u

-- The run is at a standing with this content and these records.
pub record RunIsAtHidden (run : Run) (c : Content) (rs : List BatchRecord) (disk : Disk) : Type 0 where
  pub standing : RingStanding
  pub content : standing.content ≡ c
  pub records : standing.records ≡ rs
  pub at : RunIsAt run standing disk

module _ {V S : Type 0} (k : Kind V) (disk : S → Disk) (runs : V → Running S) (keys : Keys) (most : ℕ) (p : Params) (f : RingFound) (opened : Disk) where
  -- Behind so many epochs that ended. It reads by so many lanes, from 1 to 16. Its planner has shown the batches of the records that are
  -- hidden from the content on, what is public of it is what the store may know of these, the words are those that its tape gave, and the
  -- seals are counted. What its epoch may still draw and seal stays within that of an epoch more. Where a map was found, it holds one, and
  -- what is hidden stands.
  pub record RingAt (q : RingPublic) (h : RingHidden) (n : ℕ) (v : V) : Type 0 where
    pub params : ((runs v).run).params ≡ p
    pub keys_are : (((runs v).run).sealer).keys ≡ keys
    pub lanes : (runs v).lanes ≡ most
    pub many : (1 ≤ most) × (most ≤ 16)
    pub planned : HasPlanned (runs v).run h.content h.records
    pub known : public_of_kept p h.content h.records ((runs v).run).epoch ((runs v).run).gates ≡ q.known
    pub shown : length h.records ≡ q.shown
    pub generation : (((runs v).run).sealer).generation ≡ h.generation
    pub tape : (runs v).drawn ≡ h.words
    pub sealed : (((runs v).run).sealer).next ≡ h.seals
    pub left : ((runs v).run).left + length h.records ≡ p.batches
    pub epoch : ((runs v).run).epoch ≡ (f.run).epoch + n
    pub epoch_hidden : ((runs v).run).epoch ≡ h.epoch
    pub words : ((runs v).run).drawn + (((runs v).run).left * p.places + (p.writes + buckets p * width p)) ≤ suc n * words_an_epoch p
    pub seals : (((runs v).run).sealer).next + (((runs v).run).left * record_cells p + (buckets p * width p + checkpoint_cells p)) ≤ suc n * seals_an_epoch p
    pub held : (m : Map nat_cmp) → IsRingMap keys p opened f m → (u : VaultState) × k.holds v u × (u.spent ≡ false)
    pub stands : (m : Map nat_cmp) → IsRingMap keys p opened f m → RunIsAtHidden (runs v).run h.content h.records (disk (runs v).store)
