-- The words of a kind of store in which its runs are parts of one life.
use Rattle.std.specs.Prelude.{ℕ, Bool, List, Option}
use Rattle.ob_base.specs.declared.params.Params.{Params}
use Rattle.ob_seal.specs.declared.keys.Keys.{Keys}
use Rattle.ob_store.specs.Disk.{Disk, Image}
use Rattle.ob_store.specs.declared.event.Event.{Event}
use Rattle.ob_serial.specs.Vaults.{VaultCall}
use Rattle.ob_vault.specs.Shapes.{Shape}
use Rattle.ob_vault.specs.Kinds.{StoreKind}

pub record LifeWords (store : StoreKind) : Type 1 where
  -- a life of the store begins, of these words that its format has drawn, whatever crashes
  pub formatted : Keys → Params → (drawn : List ℕ) → Disk → Type 0
  -- An opening of a store with these cells found this: the life goes on with the opening's acts, which show what it showed.
  pub begins : Keys → Params → Image → store.Found → Type 0
  -- One that was refused made some of those acts, and left the store so.
  pub stops : Keys → Params → (old new : Disk) → Type 0
  -- And from what was found on, over the store as it was opened, by so many lanes at most, with these calls, which drew this and hid that,
  -- and with one more, where that was refused, of which this was seen; a tape has given these words, and the store was left so.
  pub goes_on : Keys → (most : ℕ) → Params → store.Found → (opened : Disk) → List VaultCall → List (Shape × store.Drawn) → (behind : store.Hidden) → Option VaultCall → (words : List ℕ) → (seen : List Event) → (new : Disk) → Type 0
  -- The store was opened in stages, from the one to the other.
  pub opens_staged : {S : Type 0} → (S → Disk) → Keys → Params → (old new : S) → Type 0
  -- And so was a call made, all of its stages where it was answered, behind these calls, which drew this, from what was then public and hidden; by
  -- its end a tape had given these words.
  pub call_staged : {S : Type 0} → (S → Disk) → Keys → (most : ℕ) → Params → store.Found → (opened : Disk) → List VaultCall → List (Shape × store.Drawn) → store.Public → store.Hidden → VaultCall → (words : List ℕ) → (answered : Bool) → (old new : S) → Type 0
