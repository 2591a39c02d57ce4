-- What a format leaves.
use Rattle.std.specs.FinMap.{empty}
use Rattle.ob_base.specs.declared.params.Params.{Params}
use Rattle.ob_seal.specs.declared.keys.Keys.{Keys}
use Rattle.ob_store.specs.Disk.{Disk, Image}
use Rattle.ob_store.specs.Images.{IsSynced}
use Rattle.ob_store.specs.Calls.{Notes}
use Rattle.ob_serial.specs.Vaults.{Standing}
use Rattle.ob_vault.specs.Kinds.{StoreKind}

-- before the first epoch, with no key present
abbrev pub beginning : Standing
beginning = record { epoch = 0; content = empty }

-- An empty store was made, of generation 1, by the order of writes and syncs that its parameters fix; nothing waits for a sync.
pub record MakesEmpty (store : StoreKind) (keys : Keys) (p : Params) (old new : Disk) : Type 0 where
  pub seen : Notes (store.format_order p) old.seen new.seen
  pub stands : old.tells → store.stands keys p 1 new.cells beginning
  pub images : old.tells → (c : Image) → new.may_leave c → store.stands keys p 1 c beginning
  pub durable : old.tells → IsSynced new
  pub lays : old.tells → store.format_lays p new.cells
