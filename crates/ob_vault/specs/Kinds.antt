-- A kind of store, as the layers above a vault see it.
use Rattle.std.specs.Prelude.{ℕ, ◌≡◌, ◌⊎◌, ◌≤◌, false, List, Option, None, Result}
use Rattle.std.specs.Ordering.{nat_cmp}
use Rattle.ob_base.specs.declared.params.Params.{Params}
use Rattle.ob_base.specs.declared.fault.Fault.{Fault}
use Rattle.ob_seal.specs.declared.keys.Keys.{Keys}
use Rattle.ob_store.specs.declared.event.Event.{Event}
use Rattle.ob_store.specs.declared.watch.Note.{Note}
use Rattle.ob_store.specs.Lines.{Trace}
use Rattle.ob_store.specs.Disk.{Disk, Image}
use Rattle.ob_serial.specs.Serial.{Map}
use Rattle.ob_serial.specs.Vaults.{VaultCall, VaultState, Standing}
use Rattle.ob_schedule.specs.Phases.{Phase}
use Rattle.ob_vault.specs.Shapes.{Shape}

-- The words of a kind of store.
pub record StoreKind : Type 1 where
  -- the first cell's bytes are the head of a store with these parameters; and what is read of it
  pub is_head : Keys → Params → List ℕ → Type 0
  pub head_read : Keys → List ℕ → Result Params Fault → Type 0
  pub head_fault : Fault → Type 0
  -- what an image stands for, at this generation
  pub stands : Keys → Params → ℕ → Image → Standing → Type 0
  -- A format of a store without a key: how many cells it has, the order of its calls, the notes of them, what its cells have besides what they stand for,
  -- what a crash leaves of it where its tape has then given these words, and why it is refused, besides its store, before anything is done.
  pub cells : Params → ℕ
  pub format_order : Params → List Event
  pub format_notes : Params → List Note
  pub format_lays : Params → Image → Type 0
  pub format_leaves : Keys → Params → (drawn : List ℕ) → Disk → Image → Type 0
  pub format_fault : Fault → Type 0
  -- And what its head and registers then show in the clear, by its answer: where the store tells these calls, and had and has these cells.
  pub format_clears : Keys → Params → Option (List Event) → (old new : Image) → Result (Unit {0}) Fault → Type 0
  -- What an opening finds: the last epoch that ended, the batches that the running one has left, the new generation, and a map.
  pub Found : Type 0
  pub epoch : Found → ℕ
  pub left : Params → Found → ℕ
  pub generation : Found → ℕ
  -- what is known of that map, of the store as it was opened
  pub is_map : Keys → Params → Disk → Found → Map nat_cmp → Type 0
  -- it finds this in an image, or refuses it with this fault
  pub finds : Keys → Params → Image → Found → Type 0
  pub refuses : Keys → Params → Image → Fault → Type 0
  pub open_fault : Fault → Type 0
  -- refused so, an opening may have begun the next generation
  pub may_begin : Fault → Type 0
  -- What else the order of an opening depends on, how it stands in an image, and the order; and what is seen of one that was
  -- refused with a fault, where at most so many lanes read at once.
  pub Start : Type 0
  pub starts : Keys → Params → Image → Found → Start → Type 0
  pub opens : Params → Found → Start → List Phase
  pub opens_partly : Keys → (most : ℕ) → Params → Disk → Disk → Fault → Type 0
  -- What a watch is shown of an opening, behind the head's read; and what it was shown of a refused one, with the head's read.
  pub open_notes : Params → Found → Start → List Note
  pub opens_shown : {S : Type 0} → (S → Disk) → Keys → (most : ℕ) → Params → Disk → Disk → Trace → Trace → Fault → Type 0
  -- What else the trace depends on: what is public of a vault, as an opening leaves it; what a call draws; its phases, and what is
  -- public behind it.
  pub Public : Type 0
  pub public : Params → Found → Public
  pub Drawn : Type 0
  pub phases : Params → Public → Shape → Drawn → List Phase
  -- what a watch is shown of it, each label in front of its reads
  pub notes : Params → Public → Shape → Drawn → List Note
  pub next : Params → Public → Shape → Drawn → Public
  -- What fills the holes depends on: what a vault keeps to itself, as an opening leaves it; what a call with these keys, or these writes,
  -- draws from there, and what is kept behind it; and that the words in it, with those of a call that was then refused so, are these, which
  -- a tape gave.
  pub Hidden : Type 0
  pub hidden : Params → Found → Hidden
  pub draws : Params → Hidden → VaultCall → Drawn → Hidden → Type 0
  -- how many seals it has made in its generation
  pub seals : Hidden → ℕ
  pub is_of_tape : Params → Hidden → Option VaultCall → (words : List ℕ) → Option Fault → Type 0
  -- What may be seen, of so many lanes at most, of a call that was refused with this fault, or left in doubt by it, once a tape had given
  -- these words.
  pub cut : (most : ℕ) → Params → Public → Hidden → VaultCall → Drawn → (words : List ℕ) → Fault → List Event → Type 0
  -- and what a watch was shown of it, where this was seen: what was made, as planned, but for a sync that failed
  pub cut_shown : (most : ℕ) → Params → Public → VaultCall → Drawn → Fault → (seen : List Event) → (shown : List Note) → Type 0
  -- Why a vault refuses this call from what is hidden, behind these and so many epochs that ended, besides its store: the disk was this one
  -- once it was opened, and this one behind the call; and a tape had then given these words.
  pub causes : Keys → Params → Found → (opened now : Disk) → Hidden → List Shape → ℕ → Option VaultCall → (words : List ℕ) → Fault → Type 0
  -- from this generation and this epoch on so many more epochs can end without a number that comes to its end
  pub lasts : Params → ℕ → ℕ → ℕ → Type 0
  -- what may refuse a call even so, where the store stood
  pub may_stop : Params → Fault → Type 0

module _ (kind : StoreKind) (keys : Keys) (p : Params) where
  -- the image stands for this, at some generation
  abbrev pub Stands : Image → Standing → Type 0
  Stands image at = (g : ℕ) × kind.stands keys p g image at

  -- each image that a crash may leave stands for something
  abbrev pub AllStand : Disk → Type 0
  AllStand disk = (c : Image) → disk.may_leave c → (at : Standing) × Stands c at

  -- The image stands for what the cells stood for, or an image that a crash might have left, and its generation is no lower.
  pub record StandsAsBefore (old : Disk) (c : Image) : Type 0 where
    pub at : Standing
    pub generation : ℕ
    pub stands : kind.stands keys p generation c at
    pub earlier : ℕ
    pub no_lower : earlier ≤ generation
    pub was : kind.stands keys p earlier old.cells at ⊎ ((d : Image) × old.may_leave d × kind.stands keys p earlier d at)

  -- An opening found what the store stood for, and the store stands for it still, at the new generation, whatever crashes.
  pub record IsOpenedAt (at : Standing) (found : kind.Found) (new : Disk) : Type 0 where
    pub epoch : kind.epoch found ≡ at.epoch
    pub content : kind.is_map keys p new found at.content
    pub stands : kind.stands keys p (kind.generation found) new.cells at
    pub images : (c : Image) → new.may_leave c → kind.stands keys p (kind.generation found) c at

-- what a vault holds that was opened at an epoch, with so many batches left
abbrev pub opened_with : Params → ℕ → Standing → VaultState
opened_with p left at = record { batches = p.batches; epoch = at.epoch; content = at.content; left = left; spent = false; doubt = None }
