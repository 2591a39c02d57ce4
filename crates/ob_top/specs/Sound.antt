-- What a call leaves for the next one.
use Rattle.ob_base.specs.declared.params.Params.{Params}
use Rattle.ob_seal.specs.declared.keys.Keys.{Keys}
use Rattle.ob_serial.specs.Vaults.{Standing}
use Rattle.ob_store.specs.Disk.{Disk}
use Rattle.ob_vault.specs.Kinds.{AllStand, StoreKind, Stands}

-- A store that stands, as the next call wants it: what reads give stands for an epoch and its map, where it is told, and so does each image
-- that a crash may leave.
pub record IsSound (store : StoreKind) (keys : Keys) (p : Params) (disk : Disk) : Type 0 where
  pub cells : disk.tells → (at : Standing) × Stands store keys p disk.cells at
  pub images : AllStand store keys p disk

-- Whatever a call answered, a store that stood stands.
abbrev pub StandsOn : (store : StoreKind) → {S : Type 0} → (S → Disk) → Keys → S → S → Type 0
StandsOn store disk keys old new = (p : Params) → (disk old).tells → IsSound store keys p (disk old) → IsSound store keys p (disk new)
