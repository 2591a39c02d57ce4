-- What a plain vault holds, and what its calls do to its store.
use Rattle.std.specs.Prelude.{◌≡◌, ◌⊎◌, ◌+◌, ◌≤◌, ◌<◌, ◌^◌, ℕ, suc, false, List, [], ◌∷◌, length, Option, Some, None}
use Rattle.std.specs.Borrow.{GName}
use Rattle.ob_base.specs.declared.params.Params.{Params}
use Rattle.ob_base.specs.declared.fault.Fault.{Fault}
use Rattle.ob_base.specs.declared.fault.Fault.TheVariants.{StoreFault, Worn}
use Rattle.ob_store.specs.declared.watch.Note.{Note}
use Rattle.ob_store.specs.Disk.{Disk, Image}
use Rattle.ob_store.specs.Images.{IsSynced, IsImageOf, Passes}
use Rattle.ob_store.specs.Calls.{GoesOn, Holds, Notes}
use Rattle.ob_store.specs.Told.{events_of, IsCut}
use Rattle.ob_seal.specs.declared.keys.Keys.{Keys}
use Rattle.ob_seal.specs.Sealing.{Sealing}
use Rattle.ob_cells.specs.Runs.{IsFurther}
use Rattle.ob_flat.specs.Rows.{row_cells}
use Rattle.ob_twin.specs.declared.gates.Open.{Open}
use Rattle.ob_twin.specs.Register.{place_of}
use Rattle.ob_twin.specs.Opening.{with_mark}
use Rattle.ob_pads.specs.Seals.{ClearBy}
use Rattle.ob_serial.specs.Vaults.{VaultState, VaultCounts, VaultCall, Fetch, End, VaultAnswer, Values, Ended, RefusedBy, DoubtBy, Standing, standing_now, counts_of, MayStand, StandsIn}
use Rattle.ob_flat.specs.Places.{area_of}
use Rattle.ob_flat.specs.Standing.{IsMapOf, StandsFlat}
use Rattle.ob_flat.specs.Orders.{end_events, end_notes, end_prepare_notes, end_gate_notes}

-- a disk with one reference more
abbrev pub lent : GName → Disk → Disk
lent name disk = record disk { anchors = name ∷ disk.anchors }

-- the values are the map's
pub record FlatHolds (p : Params) (counts : VaultCounts) (values : List (Option (List ℕ))) (v : VaultState) : Type 0 where
  pub counts_are : counts_of v ≡ counts
  pub batches : v.batches ≡ p.batches
  pub content : IsMapOf values v.content

-- While it serves, no write waits for a sync, no end is in doubt, and the store stands for what it holds, at its generation.
pub record FlatServes (keys : Keys) (p : Params) (g : ℕ) (disk : Disk) (v : VaultState) : Type 0 where
  pub tells : disk.tells
  pub settled : IsSynced disk
  pub no_doubt : v.doubt ≡ None
  pub stands : StandsFlat keys p g disk.cells (standing_now v)

-- And each image that a crash may leave, and what reads give, stands for what that allows.
pub record FlatSound (keys : Keys) (p : Params) (g : ℕ) (counts : VaultCounts) (values : List (Option (List ℕ))) (disk : Disk) (v : VaultState) : Type 0 where
  pub holds : FlatHolds p counts values v
  pub serves : v.spent ≡ false → FlatServes keys p g disk v
  pub images : (c : Image) → IsImageOf disk c → StandsIn (StandsFlat keys p g) (MayStand v) c

-- what a vault holds that was opened at an epoch
abbrev pub opened_at : Params → Standing → VaultState
opened_at p at = record { batches = p.batches; epoch = at.epoch; content = at.content; left = p.batches; spent = false; doubt = None }

-- The end of an epoch did all of it: it sealed a row for each key, under the next seals.
pub record IsEndDone (n : ℕ) (known : Open) (epoch : ℕ) (values : List (Option (List ℕ))) (sealing sealed : Sealing) (old new : Disk) (notes : List Note) : Type 0 where
  pub small : suc epoch < 2 ^ 62
  pub room : sealing.next + n ≤ 2 ^ 62
  pub whole : length values ≡ n
  pub written : old.tells → Holds (area_of n (suc epoch)) (row_cells sealing.keys (area_of n (suc epoch)) sealing.generation sealing.next values) new.cells
  pub seals : sealed ≡ record sealing { next = sealing.next + n }
  pub seen : Notes (end_events n known (suc epoch)) old.seen new.seen
  pub shown : notes ≡ end_notes n known (suc epoch)

-- It was refused before the write that opens its gate: it did the first of what comes before that write.
pub record IsEndCutShort (n : ℕ) (known : Open) (epoch : ℕ) (sealing sealed : Sealing) (old new : Disk) (notes : List Note) : Type 0 where
  pub small : suc epoch < 2 ^ 62
  pub room : sealing.next + n ≤ 2 ^ 62
  pub seals : IsFurther n sealing sealed
  pub made : List Note
  pub cut : IsCut (end_prepare_notes n known (suc epoch)) made notes
  pub seen : Notes (events_of made) old.seen new.seen

-- It is left in doubt: that write was made, and the sync behind it or not.
pub record IsInDoubt (n : ℕ) (known : Open) (epoch : ℕ) (sealing sealed : Sealing) (old new : Disk) (notes : List Note) : Type 0 where
  pub small : suc epoch < 2 ^ 62
  pub room : sealing.next + n ≤ 2 ^ 62
  pub seals : IsFurther n sealing sealed
  pub shown : notes ≡ end_gate_notes n known (suc epoch)
  pub seen : Notes (events_of (end_gate_notes n known (suc epoch))) old.seen new.seen ⊎ Notes (end_events n known (suc epoch)) old.seen new.seen
  -- the rows are written all the same, under as many seals
  pub rows : List (Option (List ℕ))
  pub whole : length rows ≡ n
  pub written : old.tells → Holds (area_of n (suc epoch)) (row_cells sealing.keys (area_of n (suc epoch)) sealing.generation sealing.next rows) new.cells
  pub all_sealed : sealed ≡ record sealing { next = sealing.next + n }

-- nothing, since there is no next epoch, or not a seal left for each key
pub record IsWorn {S : Type 0} (n epoch : ℕ) (sealing sealed : Sealing) (before after : S) (notes : List Note) : Type 0 where
  pub last : (suc epoch ≡ 2 ^ 62) ⊎ (2 ^ 62 < sealing.next + n)
  pub same : after ≡ before
  pub seals : sealed ≡ sealing
  pub shown : notes ≡ []

-- what a call goes from: the vault's store, and its sealer
pub record Holding (S : Type 0) : Type 0 where
  pub store : S
  pub sealing : Sealing

-- A refused end did the first of what comes before its gate, or nothing.
abbrev pub RefusedDoes : {S : Type 0} → ℕ → Open → ℕ → Holding S → Holding S → Disk → Disk → List Note → Fault → Type 0
RefusedDoes n known epoch before after old new notes (StoreFault unsure) = (unsure ≡ None) × IsEndCutShort n known epoch before.sealing after.sealing old new notes
RefusedDoes n known epoch before after old new notes (Worn number) = (number ≡ 2 ^ 62) × IsWorn n epoch before.sealing after.sealing before.store after.store notes
RefusedDoes n known epoch before after old new notes _ = ⊥

-- What a call does to the store, where the last epoch that ended was this one and this was known of the gates, and the vault then
-- has these values.
module _ {S : Type 0} (p : Params) (known : Open) (epoch : ℕ) (values : List (Option (List ℕ))) (before after : Holding S) (old new : Disk) (notes : List Note) where
  abbrev pub EndDoes : VaultAnswer → Type 0
  EndDoes Ended = IsEndDone p.keys known epoch values before.sealing after.sealing old new notes
  EndDoes (RefusedBy fault) = RefusedDoes p.keys known epoch before after old new notes fault
  EndDoes (DoubtBy fault) = (fault ≡ StoreFault (Some (suc epoch))) × IsInDoubt p.keys known epoch before.sealing after.sealing old new notes
  EndDoes _ = ⊥

  -- a fetch does nothing to the store, and is never refused
  abbrev pub FetchDoes : VaultAnswer → Type 0
  FetchDoes (Values found) = (after ≡ before) × (notes ≡ [])
  FetchDoes _ = ⊥

  abbrev pub CallDoes : VaultCall → VaultAnswer → Type 0
  CallDoes (Fetch keys) answer = FetchDoes answer
  CallDoes (End writes) answer = EndDoes answer

-- An end that went well is the last one from then on, and its register's gate is known to be open. Any other call leaves both as they
-- were.
abbrev pub KnowsNext : Open → ℕ → VaultAnswer → Open → ℕ → Type 0
KnowsNext known epoch Ended known_new epoch_new = (known_new ≡ with_mark known (place_of (suc epoch))) × (epoch_new ≡ suc epoch)
KnowsNext known epoch _ known_new epoch_new = (known_new ≡ known) × (epoch_new ≡ epoch)

-- The two images differ at most in the register of epochs and in the rows of an epoch's area: not in the head, nor in the register of
-- generations, nor in another row.
abbrev pub SameOffEpoch : ℕ → ℕ → Image → Image → Type 0
SameOffEpoch n epoch a b = (k : ℕ) → (k < 5) ⊎ ((9 ≤ k) × ((k < area_of n epoch) ⊎ (area_of n epoch + n ≤ k))) → a k ≡ b k

-- What a call does to the store, and what the vault knows then, whose parameters stay.
pub record FlatCalled {S : Type 0} (p : Params) (known : Open) (epoch : ℕ) (values : List (Option (List ℕ))) (before after : Holding S) (old new : Disk) (notes : List Note) (call : VaultCall) (answer : VaultAnswer) (p_new : Params) (known_new : Open) (epoch_new : ℕ) : Type 0 where
  pub params : p_new ≡ p
  pub does : CallDoes p known epoch values before after old new notes call answer
  pub knows : KnowsNext known epoch answer known_new epoch_new
  pub goes : GoesOn old new
  -- whatever it answers, no other cell changes, and a crash at any moment leaves no other one changed
  pub rest : old.tells → SameOffEpoch p.keys (suc epoch) new.cells old.cells
  pub passes : Passes (SameOffEpoch p.keys (suc epoch)) old new
  -- of the epochs' register each cell is as it was, or has what a register writes there; refused, but for one whose write the store refused
  pub clear : new.tells → ClearBy answer before.sealing.keys new.seen old.cells new.cells
