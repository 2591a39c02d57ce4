-- What a crash leaves of an opening.
use Rattle.std.specs.Prelude.{ℕ, ◌≤◌}
use Rattle.ob_base.specs.declared.params.Params.{Params}
use Rattle.ob_seal.specs.declared.keys.Keys.{Keys}
use Rattle.ob_store.specs.Disk.{Disk}
use Rattle.ob_store.specs.Images.{IsSynced, LeavesOnly, Passes, Same}
use Rattle.ob_serial.specs.Vaults.{Standing}
use Rattle.ob_start.specs.Beginning.{ReadsThenSync}
use Rattle.ob_vault.specs.Kinds.{StoreKind}

-- The first sync of an opening succeeded, and the store was this one then: no write waited, and up to it only reads were called for. Until
-- then a crash leaves what it might have left before; from then on only an image that stands for what the store stood for, at no lower
-- generation.
pub record OpensStanding (store : StoreKind) {S : Type 0} (disk : S → Disk) (keys : Keys) (p : Params) (old new : Disk) : Type 0 where
  pub synced : S
  pub called : ReadsThenSync old (disk synced)
  pub until : Passes Same old (disk synced)
  pub settled : old.tells → IsSynced (disk synced)
  pub since : (generation : ℕ) (at : Standing) → old.tells → store.stands keys p generation old.cells at
      → LeavesOnly (disk synced) new (λ c. (later : ℕ) × (generation ≤ later) × store.stands keys p later c at)
