-- Private: what a run over a store that stands may be refused for.
use Rattle.std.specs.Prelude.{ℕ, ◌≡◌, ◌⊎◌, ◌≤◌, List, Option, Err}
use Rattle.std.specs.Ordering.{nat_cmp}
use Rattle.ob_base.specs.declared.params.Params.{Params}
use Rattle.ob_base.specs.declared.fault.Fault.{Fault}
use Rattle.ob_base.specs.declared.fault.Fault.TheVariants.{Memory}
use Rattle.ob_seal.specs.declared.keys.Keys.{Keys}
use Rattle.ob_store.specs.Disk.{Disk, Image}
use Rattle.ob_store.specs.Calls.{IsStoreFault}
use Rattle.ob_serial.specs.Serial.{Map}
use Rattle.ob_serial.specs.Vaults.{Standing, VaultCall}
use Rattle.ob_vault.specs.Shapes.{Shape}
use Rattle.ob_vault.specs.Kinds.{StoreKind}

-- the laws of a kind of store that keeps what stands
pub record AreStandingLaws (store : StoreKind) : Type 1 where
  -- a head is of one row of parameters; what stands has one, and only its store refuses to read it
  pub one_head : (keys : Keys) (p q : Params) (bytes : List ℕ) → store.is_head keys p bytes → store.is_head keys q bytes → p ≡ q
  pub has_head : (keys : Keys) (p : Params) (g : ℕ) (image : Image) (at : Standing) → store.stands keys p g image at → store.is_head keys p (image 0)
  pub reads_head : (keys : Keys) (p : Params) (bytes : List ℕ) (refused : Fault) → store.is_head keys p bytes → store.head_fault refused → store.head_read keys bytes (Err refused) → IsStoreFault refused
  -- it is opened, unless its store fails or memory is wanting, as long as its numbers last, and its epoch is found
  pub opens : (keys : Keys) (p : Params) (g : ℕ) (image : Image) (at : Standing) (n : ℕ) (refused : Fault) → store.stands keys p g image at → store.lasts p g at.epoch n → store.open_fault refused → store.refuses keys p image refused
      → IsStoreFault refused ⊎ (refused ≡ Memory)
  pub finds : (keys : Keys) (p : Params) (g : ℕ) (image : Image) (at : Standing) (found : store.Found) → store.stands keys p g image at → store.finds keys p image found → store.epoch found ≡ at.epoch
  -- then a call is refused for what may refuse one even so
  pub serves : (keys : Keys) (p : Params) (g n m : ℕ) (found : store.Found) (opened now : Disk) (h : store.Hidden) (behind : List Shape) (call : Option VaultCall) (words : List ℕ) (refused : Fault) (map : Map nat_cmp) → store.lasts p g (store.epoch found) n → m ≤ n
      → store.is_map keys p opened found map → store.causes keys p found opened now h behind m call words refused → store.may_stop p refused
