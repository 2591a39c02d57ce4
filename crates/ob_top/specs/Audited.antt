-- What an audit of runs rests on: what a run leaves is as its trace tells.
use Rattle.std.specs.Prelude.{◌≡◌, ◌-◌, ℕ, suc, true, List, length, Option, Some}
use Rattle.std.specs.Ordering.{nat_cmp}
use Rattle.ob_base.specs.Layout.{GenerationTwin}
use Rattle.ob_base.specs.declared.fault.Fault.{Fault}
use Rattle.ob_base.specs.declared.params.Params.{Params}
use Rattle.ob_opening.specs.OpeningActs.{AreGatesIn}
use Rattle.ob_opening.specs.OpeningStops.{OpeningStops}
use Rattle.ob_recover.specs.Known.{format_gates, gates_open}
use Rattle.ob_recover.specs.Life.{LifeState, WordId}
use Rattle.ob_schedule.specs.Schedule.{Fills, gate_cell}
use Rattle.ob_seal.specs.declared.keys.Keys.{Keys}
use Rattle.ob_serial.specs.Serial.{Map}
use Rattle.ob_serial.specs.Vaults.{VaultCall}
use Rattle.ob_store.specs.Disk.{Disk, Image}
use Rattle.ob_store.specs.Lines.{Trace}
use Rattle.ob_store.specs.declared.event.Event.{Event}
use Rattle.ob_store.specs.declared.watch.Note.{Note}
use Rattle.ob_vault.specs.Acts.{AreTapeWords}
use Rattle.ob_vault.specs.Gated.{AreGatesKnown}
use Rattle.ob_vault.specs.Hidden.{RingHidden}
use Rattle.ob_vault.specs.KindShown.{public_behind}
use Rattle.ob_vault.specs.Kinds.{StoreKind}
use Rattle.ob_vault.specs.Lives.{RingGoesOn}
use Rattle.ob_vault.specs.RingKind.{IsRingMap, RingFound, ring_hidden, ring_kind, ring_public}
use Rattle.ob_vault.specs.Seen.{RingPublic, ring_notes}
use Rattle.ob_vault.specs.Shapes.{Shape, shape_of}
use Rattle.ob_vault.specs.Shown.{IsInLife}
use Rattle.ob_vault.specs.Spans.{IsCutIn, IsSeenIn, span}
use Rattle.ob_vault.specs.Stages.{HowFar}
use Rattle.ob_admitted.specs.Gates.{LeavesGates, notes_lacking}
use Rattle.ob_admitted.specs.Parts.{IsRefusedShown}
use Rattle.ob_admitted.specs.Told.{IsCountIn, IsLeftAsNoted, IsRunNoted}

-- The words of a kind of store in which that is said.
pub record AuditWords (store : StoreKind) : Type 1 where
  -- the registers' gates are a format's, whatever crashes
  pub made_gated : (made : Disk) → Type 0
  -- an opening was refused with this fault, and by its notes so the store was left
  pub opening_stops : Keys → (most : ℕ) → Params → (old new : Disk) → (before after : Trace) → Fault → Type 0
  -- Over the store behind the head's read an opening came so far: to its reads alone, or on from its first sync in stages.
  pub opening_far : {S : Type 0} → (S → Disk) → Keys → Params → (read new : S) → Type 0
  -- what was found knows the gates of the store as it was opened
  pub knows_gates : store.Found → (opened : Disk) → Type 0
  -- From what was found on, over the store as it was opened, these calls were answered, which drew this and hid that; and one more, where that was
  -- refused, of which this was seen, showed these notes. What is left of it, and of the gates, is as they tell; a tape had given these words, and the
  -- store was left so.
  pub leaves_as_shown : Keys → (most : ℕ) → Params → store.Found → (opened : Disk) → List VaultCall → List (Shape × store.Drawn) → (behind : store.Hidden) → Option VaultCall → (words : List ℕ) → (seen : List Event) → (last : List Note) → (new : Disk) → Type 0
  -- Behind these calls, which drew this, a call was made from what was then public and hidden, over this store; by its end a tape had given these words.
  -- What a crash leaves at a moment of one of its stages is as so many notes of it tell as may have been shown in that.
  pub call_cut_as_shown : {S : Type 0} → (S → Disk) → Keys → (most : ℕ) → Params → store.Found → (opened : Disk) → List VaultCall → List (Shape × store.Drawn) → store.Public → store.Hidden → VaultCall → (words : List ℕ) → (began : S) → Type 0

-- Of a ring store: the run goes on with each life, and of the call that was refused the acts that are left are as its notes tell. Where a map was
-- found, the gates were known, and that of the generation before was open, so are the gates that the next run finds.
pub record RingLeavesAsShown (keys : Keys) (most : ℕ) (p : Params) (found : RingFound) (opened : Disk) (calls : List VaultCall) (steps : List (Shape × Fills)) (behind : RingHidden) (refused : Option VaultCall) (words : List ℕ) (seen : List Event)
    (last : List Note) (new : Disk) : Type 0 where
  pub shown : IsRefusedShown most p (public_behind ring_kind p (ring_public p found) steps) behind refused words seen last
  pub goes : RingGoesOn keys most p found opened calls steps behind refused words seen new
  pub noted : (word_of : WordId → ℕ) (s : LifeState) (here : IsInLife p word_of (ring_hidden found) s) (tape : AreTapeWords word_of (ring_hidden found).generation words) (m : Map nat_cmp) (is : IsRingMap keys p opened found m)
      → IsRunNoted most p (public_behind ring_kind p (ring_public p found) steps) behind refused words seen last shown ((goes word_of s here tape).left m is).made ((goes word_of s here tape).left m is).in_flight
  pub gated : AreGatesKnown found.run opened → (m : Map nat_cmp) → IsRingMap keys p opened found m → gates_open (found.run).gates (gate_cell p GenerationTwin (suc behind.generation)) ≡ true
      → LeavesGates keys p (public_behind ring_kind p (ring_public p found) steps) behind refused (notes_lacking most p (public_behind ring_kind p (ring_public p found) steps) behind refused words seen last shown) new.may_leave

-- Of a ring store: a run that is cut off within the next call, at a moment of a stage from the one store to the other, goes on with each life as one whose
-- call was refused. Of that call the acts that are left are as so many notes of it tell as may have been shown in the stage; and where the gates were
-- known, and that of the generation before was open, so are the gates that the next run finds.
pub record RingCutAsShown {S : Type 0} (disk : S → Disk) (keys : Keys) (most : ℕ) (p : Params) (found : RingFound) (opened : Disk) (calls : List VaultCall) (steps : List (Shape × Fills)) (q : RingPublic) (behind : RingHidden) (call : VaultCall) (words : List ℕ)
    (seen : List Event) (stage : ℕ) (x : S × S) : Type 0 where
  pub goes : RingGoesOn keys most p found opened calls steps behind (Some call) words seen (span disk x)
  pub noted : (fills : Fills) (count : ℕ) → IsCountIn p q call fills stage count → (word_of : WordId → ℕ) (s : LifeState) (here : IsInLife p word_of (ring_hidden found) s) (tape : AreTapeWords word_of (ring_hidden found).generation words) (m : Map nat_cmp) (is : IsRingMap keys p opened found m)
      → IsLeftAsNoted p q call fills count ((goes word_of s here tape).left m is).made ((goes word_of s here tape).left m is).in_flight
  pub gated : (fills : Fills) (count : ℕ) → IsCountIn p q call fills stage count → AreGatesKnown found.run opened → gates_open (found.run).gates (gate_cell p GenerationTwin (suc behind.generation)) ≡ true
      → LeavesGates keys p q behind (Some call) (length (ring_notes p q (shape_of call) fills) - count) (span disk x).may_leave

-- so it is in each of its stages, where a map was found
abbrev pub RingCallCutAsShown : {S : Type 0} → (S → Disk) → Keys → (most : ℕ) → Params → RingFound → (opened : Disk) → List VaultCall → List (Shape × Fills) → RingPublic → RingHidden → VaultCall → (words : List ℕ) → (began : S) → Type 0
RingCallCutAsShown {S} disk keys most p found opened calls steps q behind call words began = (m : Map nat_cmp) → IsRingMap keys p opened found m → (stage : ℕ) (x : S × S) → IsCutIn disk keys most p found opened calls steps q behind call words began stage x
    → (seen : List Event) → IsSeenIn most p q call stage seen → RingCutAsShown disk keys most p found opened calls steps q behind call words seen stage x

abbrev pub ring_audits : AuditWords ring_kind
ring_audits = record {
  made_gated = λ made. (c : Image) → made.may_leave c → AreGatesIn format_gates c;
  opening_stops = OpeningStops;
  opening_far = HowFar;
  knows_gates = λ found opened. AreGatesKnown found.run opened;
  leaves_as_shown = RingLeavesAsShown;
  call_cut_as_shown = RingCallCutAsShown;
}
