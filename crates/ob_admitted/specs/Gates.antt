-- Which of the registers' gates the next run finds open, by the notes of the call that was refused.
use Rattle.std.specs.Prelude.{◌≡◌, ℕ, suc, ◌+◌, ◌-◌, Bool, true, false, List, [], ◌∷◌, length, Option, None, Some}
use Rattle.std.specs.Ordering.{nat_cmp}
use Rattle.ob_base.specs.Layout.{EpochTwin, GenerationTwin}
use Rattle.ob_base.specs.declared.fault.Fault.{Fault}
use Rattle.ob_base.specs.declared.params.Params.{Params}
use Rattle.ob_opening.specs.OpeningActs.{AreGatesIn, StandsInLife}
use Rattle.ob_recover.specs.Known.{format_gates, gates_open}
use Rattle.ob_recover.specs.Life.{LifeState, WordId}
use Rattle.ob_schedule.specs.Schedule.{Fills, gate_cell}
use Rattle.ob_seal.specs.declared.keys.Keys.{Keys}
use Rattle.ob_serial.specs.Serial.{Map}
use Rattle.ob_serial.specs.VaultKinds.{Called, Kind}
use Rattle.ob_serial.specs.Vaults.{End, Fetch, VaultAnswer, VaultCall}
use Rattle.ob_store.specs.Disk.{Disk, Image}
use Rattle.ob_store.specs.declared.event.Event.{Event}
use Rattle.ob_store.specs.declared.watch.Note.{Note}
use Rattle.ob_twin.specs.declared.gates.Gates.{Gates}
use Rattle.ob_vault.specs.Acts.{is_answered}
use Rattle.ob_vault.specs.Gated.{AreGatesKnown}
use Rattle.ob_vault.specs.Hidden.{RingCut, RingCutShown, RingHidden}
use Rattle.ob_vault.specs.Joined.{AreGiven, AreRunsFrom, RunPart, Served, Stopped}
use Rattle.ob_vault.specs.KindShown.{public_behind}
use Rattle.ob_vault.specs.Lives.{RingFormatted}
use Rattle.ob_vault.specs.RingKind.{IsRingMap, RingFound, ring_kind, ring_public}
use Rattle.ob_vault.specs.RingSteps.{HasRingWords, RingAt}
use Rattle.ob_vault.specs.RingVaults.{Running}
use Rattle.ob_vault.specs.Seen.{RingPublic, ring_notes}
use Rattle.ob_vault.specs.Shapes.{Shape, shape_of}
use Rattle.ob_vault.specs.Spans.{IsCutIn, span}
use Rattle.ob_histories.specs.Histories.{IsGateLeft, IsHistory}
use Rattle.ob_histories.specs.Laws.{AreAdmitted}
use Rattle.ob_histories.specs.Runs.{RunFound}
use Rattle.ob_admitted.specs.Parts.{IsRefusedShown}
use Rattle.ob_admitted.specs.Rows.{lines_of_runs}
use Rattle.ob_admitted.specs.Told.{AreRunsNoted, IsCountIn}
use Rattle.ob_admitted.specs.Walks.{AreRunsTold, IsRowInLife}
use Rattle.ob_admitted.specs.Wholes.{found_of_life}

-- This epoch was durable, and the gate that the end behind it sets was open, or not. A batch leaves it so. An end of which so many notes weren't
-- shown leaves it as closing and opening it leave that; and where its epoch is found, the gate of the one before is open.
abbrev pub IsGateFound : (epoch : ℕ) → (was : Bool) → VaultCall → (lacking : ℕ) → RunFound → Type 0
IsGateFound epoch was (Fetch asks) lacking next = next.epoch ≡ epoch → next.epoch_gate ≡ was
IsGateFound epoch was (End writes) lacking next = (next.epoch ≡ suc epoch → next.epoch_gate ≡ true) × (next.epoch ≡ epoch → IsGateLeft was lacking next.epoch_gate)

-- and so behind a run, none of whose calls may have been refused
abbrev pub IsGateFoundBy : (epoch : ℕ) → (was : Bool) → Option VaultCall → (lacking : ℕ) → RunFound → Type 0
IsGateFoundBy epoch was None lacking next = next.epoch ≡ epoch → next.epoch_gate ≡ was
IsGateFoundBy epoch was (Some call) lacking next = IsGateFound epoch was call lacking next

-- This is public and hidden behind the calls that were answered, and of the one that was refused so many notes lack. Wherever the next run
-- begins, at an image that may be left and stands for a life, it finds the gates so: that of the same generation's register open.
abbrev pub LeavesGates : Keys → Params → RingPublic → RingHidden → Option VaultCall → (lacking : ℕ) → (may_leave : Image → Type 0) → Type 0
LeavesGates keys p q h refused lacking may_leave = (word_of : WordId → ℕ) (s : LifeState) (image : Image) (gates : Gates) → may_leave image → StandsInLife keys p word_of s image → AreGatesIn gates image
    → (s.generation ≡ h.generation → (found_of_life p s (gates_open gates)).generation_gate ≡ true)
    × IsGateFoundBy h.epoch (q.known.gates (gate_cell p EpochTwin (h.epoch + 1))) refused lacking (found_of_life p s (gates_open gates))

-- Where a map was found, and the run knows the gates, that of the generation before its own open, calls that were answered leave them so; and so
-- does one that was refused behind them.
abbrev pub CallsLeaveGates : {V S : Type 0} → Kind V → (S → Disk) → Type 0
CallsLeaveGates {V} {S} k disk = (runs : V → Running S) → HasRingWords k disk runs → (keys : Keys) (most : ℕ) (p : Params) (f : RingFound) (first : V) (q : RingPublic) (h : RingHidden) (n : ℕ) (v : V)
    → RingAt k disk runs keys most p f (disk (runs first).store) q h n v → AreGatesKnown (runs v).run (disk (runs v).store) → gates_open ((runs v).run).gates (gate_cell p GenerationTwin (suc h.generation)) ≡ true
    → (m : Map nat_cmp) → IsRingMap keys p (disk (runs first).store) f m
    → LeavesGates keys p q h None 0 (disk (runs v).store).may_leave
    × ((call : VaultCall) (answer : VaultAnswer) (w : V) (one : Called k v call answer w) → is_answered answer ≡ false → (c : Fills) (refused : Fault) (seen : List Event) → RingCut most p q h call c (runs w).drawn refused seen → RingCutShown most p q call c refused seen one.notes
    → LeavesGates keys p q h (Some call) (length (ring_notes p q (shape_of call) c) - length one.notes) (disk (runs w).store).may_leave)

-- So does one that was cut off in a stage, by as many of its notes as may have been shown in that.
abbrev pub StagesLeaveGates : {V S : Type 0} → Kind V → (S → Disk) → Type 0
StagesLeaveGates {V} {S} k disk = (runs : V → Running S) → HasRingWords k disk runs → (keys : Keys) (most : ℕ) (p : Params) (f : RingFound) (first : V) (calls : List VaultCall) (steps : List (Shape × Fills)) (q : RingPublic) (h : RingHidden) (n : ℕ) (v : V)
    → RingAt k disk runs keys most p f (disk (runs first).store) q h n v → AreGatesKnown (runs v).run (disk (runs v).store) → gates_open ((runs v).run).gates (gate_cell p GenerationTwin (suc h.generation)) ≡ true
    → (m : Map nat_cmp) → IsRingMap keys p (disk (runs first).store) f m
    → (call : VaultCall) (words : List ℕ) (stage : ℕ) (x : S × S) → IsCutIn disk keys most p f (disk (runs first).store) calls steps q h call words (runs v).store stage x → (c : Fills) (count : ℕ) → IsCountIn p q call c stage count
    → LeavesGates keys p q h (Some call) (length (ring_notes p q (shape_of call) c) - count) (span disk x).may_leave

-- ---- rows of runs

abbrev pub notes_lacking : (most : ℕ) (p : Params) (q : RingPublic) (h : RingHidden) (refused : Option VaultCall) (words : List ℕ) (seen : List Event) (more : List Note) → IsRefusedShown most p q h refused words seen more → ℕ
notes_lacking most p q h None words seen more is = 0
notes_lacking most p q h (Some call) words seen more is = length (ring_notes p q (shape_of call) is.0) - length more

module _ {S : Type 0} (disk : S → Disk) (keys : Keys) (p : Params) where
  -- each run of the row leaves the gates so
  abbrev pub AreRunsGated : (parts : List (RunPart S)) (rows : List (List Note)) → AreRunsTold disk keys p parts rows → Type 0
  AreRunsGated [] rows told = Unit {0}
  AreRunsGated (Stopped old new ∷ parts) rows told = Unit {0}
  AreRunsGated (Served most old found opened calls steps behind refused words seen new ∷ parts) [] told = Unit {0}
  AreRunsGated (Served most old found opened calls steps behind refused words seen new ∷ parts) (notes ∷ rows) told =
      LeavesGates keys p (public_behind ring_kind p (ring_public p found) steps) behind refused
      (notes_lacking most p (public_behind ring_kind p (ring_public p found) steps) behind refused words seen (told.0).more (told.0).refused_shown) (disk new).may_leave
      × AreRunsGated parts rows told.1

-- So runs over a formatted store, whose gates are a format's in each image, each of which left what its notes tell, and the gates so, are one life;
-- and their lines are a history's, and so admitted.
abbrev pub GatedRunsAreAdmitted : {S : Type 0} → (S → Disk) → Type 0
GatedRunsAreAdmitted {S} disk = (keys : Keys) (p : Params) (drawn : List ℕ) (made : S) (parts : List (RunPart S)) (rows : List (List Note)) → RingFormatted keys p drawn (disk made) → ((c : Image) → (disk made).may_leave c → AreGatesIn format_gates c)
    → (from : AreRunsFrom disk keys p (disk made).may_leave parts) (told : AreRunsTold disk keys p parts rows) → AreRunsNoted disk keys p (disk made).may_leave parts rows from told → AreRunsGated disk keys p parts rows told
    → (word_of : WordId → ℕ) → AreGiven word_of parts → IsRowInLife disk keys p word_of parts × IsHistory p (lines_of_runs p rows) × AreAdmitted (lines_of_runs p rows)
