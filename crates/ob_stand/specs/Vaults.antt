-- What stands, as the law of vaults says it.
use Rattle.std.specs.Prelude.{◌≡◌, ℕ, List, map, Option}
use Rattle.std.specs.Ordering.{nat_cmp}
use Rattle.std.specs.FinMap as finite
use Rattle.ob_base.specs.declared.params.Params.{Params}
use Rattle.ob_base.specs.declared.value.Write.{Write}
use Rattle.ob_store.specs.Disk.{Image}
use Rattle.ob_seal.specs.declared.keys.Keys.{Keys}
use Rattle.ob_tables.specs.declared.entry.Entry.{Entry}
use Rattle.ob_stand.specs.Values as taken
use Rattle.ob_serial.specs.Serial.{Map}
use Rattle.ob_serial.specs.Vaults as vault
use Rattle.ob_serial.specs.Vaults.{Standing}
use Rattle.ob_stand.specs.Stands.{RingStanding, Stands, StandsRing}

-- a vault's epoch and map, of what stands
pub record IsRingOf (s : RingStanding) (at : Standing) : Type 0 where
  pub epoch : s.epoch ≡ at.epoch
  pub map : (k : ℕ) → s.map k ≡ finite.get at.content k

-- an image that stands for it stands for the vault's
abbrev pub RingStands : Type 0
RingStands = (keys : Keys) (p : Params) (s : RingStanding) (image : Image) (at : Standing) → IsRingOf s at → Stands keys p s image → StandsRing keys p s.generation image at

-- an epoch's writes, without the entries that their places give the keys
abbrev pub plain_writes : List (Write × Entry) → List (ℕ × Option (List ℕ))
plain_writes ws = map (λ w. (w.0.key, w.0.value)) ws

-- the writes of an epoch make of the values what they make of a vault's map
abbrev pub WritesAgree : Type 0
WritesAgree = (m : Map nat_cmp) (ws : List (Write × Entry)) (k : ℕ) → taken.with_entries (λ k. finite.get m k) ws k ≡ finite.get (vault.with_writes m (plain_writes ws)) k
