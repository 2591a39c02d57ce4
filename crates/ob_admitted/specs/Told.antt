-- What a run of a row leaves to be found follows from what its refused call's notes tell, but for the gates.
use Rattle.std.specs.Prelude.{◌≡◌, ◌<◌, ◌≤◌, ◌⊎◌, ℕ, ◌+◌, ◌-◌, ◌%◌, Bool, true, false, List, [], ◌∷◌, length, Option, Some, None}
use Rattle.std.proofs.Common.{zero, suc}
use Rattle.std.specs.Ordering.{nat_cmp}
use Rattle.ob_base.specs.declared.fault.Fault.{Fault}
use Rattle.ob_base.specs.declared.params.Params.{Params}
use Rattle.ob_store.specs.Disk.{Disk, Image}
use Rattle.ob_store.specs.declared.event.Event.{Event}
use Rattle.ob_store.specs.declared.watch.Note.{Note}
use Rattle.ob_base.specs.Layout.{EpochTwin}
use Rattle.ob_schedule.specs.Schedule.{Fills, gate_cell, record_notes, set_twin}
use Rattle.ob_twin.specs.Stages.{IsLackingIn}
use Rattle.ob_seal.specs.declared.keys.Keys.{Keys}
use Rattle.ob_recover.specs.Known.{gates_open}
use Rattle.ob_recover.specs.Life.{WordId, LifeAct, LifeState, ShowLifts, formatted_life, life_slots, planned_labels, reached}
use Rattle.ob_serial.specs.Serial.{Map}
use Rattle.ob_serial.specs.VaultKinds.{Called, Kind}
use Rattle.ob_serial.specs.Vaults.{End, Fetch, VaultAnswer, VaultCall}
use Rattle.ob_vault.specs.Acts.{AreTapeWords, is_answered}
use Rattle.ob_vault.specs.Hidden.{RingCut, RingCutShown, RingHidden}
use Rattle.ob_vault.specs.Joined.{AreGiven, AreRunsFrom, RunPart, Served, Stopped}
use Rattle.ob_vault.specs.KindShown.{AreDrawn, public_behind}
use Rattle.ob_vault.specs.Lives.{RingFormatted, RingGoesOn}
use Rattle.ob_vault.specs.RingKind.{IsRingMap, RingFound, ring_hidden, ring_kind, ring_public}
use Rattle.ob_vault.specs.RingSteps.{HasRingWords, RingAt}
use Rattle.ob_vault.specs.RingVaults.{Running}
use Rattle.ob_vault.specs.Seen.{RingPublic, ring_notes}
use Rattle.ob_vault.specs.Shapes.{Ends, Shape}
use Rattle.ob_vault.specs.Shown.{AreActsOf, IsInLife}
use Rattle.ob_vault.specs.Spans.{IsMadeIn}
use Rattle.ob_histories.specs.Fills.{AllFills, AreAllFills}
use Rattle.ob_histories.specs.Histories.{IsGateLeft, IsHistory}
use Rattle.ob_histories.specs.Laws.{AreAdmitted}
use Rattle.ob_histories.specs.Runs.{HistoryTurn, RunFound, notes_of_turn}
use Rattle.ob_admitted.specs.Between.{turn_of_run}
use Rattle.ob_admitted.specs.Fills.{FillsAll}
use Rattle.ob_admitted.specs.Parts.{IsRefusedShown}
use Rattle.ob_admitted.specs.Rows.{lines_of_runs}
use Rattle.ob_admitted.specs.Walks.{AreRunsTold, AreServedParts, IsRowInLife, first_gates}
use Rattle.ob_admitted.specs.Wholes.{found_of_life}

-- ---- by the notes of one call

-- the notes of the record of the batch that comes next
abbrev pub record_row : Params → RingPublic → List Note
record_row p q = record_notes p (((q.known).epoch + 1) % 2) q.shown

-- A call was refused, its holes filled so, and showed so many notes; of its acts these are made, and in flight. A batch was left, and asked for so
-- many places: where two notes of its record or more lack, it isn't made and not in flight; where one lacks, it isn't made; and where none
-- does, it is. An end has shown its lifts, and isn't in flight where two of its notes or more lack; else one does.
abbrev pub IsLeftAsNoted : Params → RingPublic → VaultCall → Fills → (count : ℕ) → (made : List LifeAct) → (in_flight : Option LifeAct) → Type 0
IsLeftAsNoted p q (Fetch asks) c count made in_flight = ((q.shown < p.batches) × (length asks ≡ p.places))
    × ((((made ≡ []) × (in_flight ≡ None) × (suc count < length (record_row p q))) ⊎ ((made ≡ []) × (suc count ≡ length (record_row p q))))
    ⊎ (AreActsOf (Fetch asks) made × (length (record_row p q) ≤ count)))
IsLeftAsNoted p q (End writes) c count made in_flight = (made ≡ ShowLifts ∷ [])
    × (((in_flight ≡ None) × (suc count < length (ring_notes p q Ends c))) ⊎ (suc count ≡ length (ring_notes p q Ends c)))

-- Behind calls that were answered, the next one was refused: the run goes on with the life, and what is left of that call is as its notes tell.
abbrev pub CallsLeaveAsNoted : {V S : Type 0} → Kind V → (S → Disk) → Type 0
CallsLeaveAsNoted {V} {S} k disk = (runs : V → Running S) → HasRingWords k disk runs → (keys : Keys) (most : ℕ) (p : Params) (f : RingFound) (first : V) (calls : List VaultCall) (steps : List (Shape × Fills)) (q : RingPublic) (h : RingHidden) (n : ℕ) (v : V)
    → AreDrawn ring_kind p (ring_hidden f) calls steps h → RingAt k disk runs keys most p f (disk (runs first).store) q h n v
    → (call : VaultCall) (answer : VaultAnswer) (w : V) (one : Called k v call answer w) → is_answered answer ≡ false → (c : Fills) (refused : Fault) (seen : List Event) → RingCut most p q h call c (runs w).drawn refused seen → RingCutShown most p q call c refused seen one.notes
    → (goes : RingGoesOn keys most p f (disk (runs first).store) calls steps h (Some call) (runs w).drawn seen (disk (runs w).store))
    × ((word_of : WordId → ℕ) (s : LifeState) (here : IsInLife p word_of (ring_hidden f) s) (tape : AreTapeWords word_of (ring_hidden f).generation (runs w).drawn) (m : Map nat_cmp) (is : IsRingMap keys p (disk (runs first).store) f m)
    → IsLeftAsNoted p q call c (length one.notes) ((goes word_of s here tape).left m is).made ((goes word_of s here tape).left m is).in_flight)

-- the notes with which an end sets the epoch's register
abbrev pub setting_row : Params → RingPublic → List Note
setting_row p q = set_twin p EpochTwin ((q.known).epoch + 1) ((q.known).gates (gate_cell p EpochTwin ((q.known).epoch + 1)))

-- So many notes were shown of a call that was cut off in its stage of this number, from 0. Of a batch: those of its record's body at most; all of
-- its record's but the last sync; all of the record's. Of an end: none of its register's set; and then of that so many lack as in a stage of a set.
abbrev pub IsCountIn : Params → RingPublic → VaultCall → Fills → (stage : ℕ) → (count : ℕ) → Type 0
IsCountIn p q (Fetch asks) c zero count = suc count < length (record_row p q)
IsCountIn p q (Fetch asks) c (suc zero) count = suc count ≡ length (record_row p q)
IsCountIn p q (Fetch asks) c (suc (suc stage)) count = length (record_row p q) ≤ count
IsCountIn p q (End writes) c zero count = length (setting_row p q) ≤ length (ring_notes p q Ends c) - count
IsCountIn p q (End writes) c (suc stage) count = IsLackingIn stage (length (ring_notes p q Ends c) - count)

-- a batch is left, and it asks for so many places
abbrev pub MayBeCut : Params → RingPublic → VaultCall → Type 0
MayBeCut p q (Fetch asks) = (q.shown < p.batches) × (length asks ≡ p.places)
MayBeCut p q (End writes) = Unit {0}

-- What is left of a call that was cut off in a stage, as a refused one, is as so many notes tell.
abbrev pub StagesLeaveAsNoted : Type 0
StagesLeaveAsNoted = (p : Params) (q : RingPublic) (call : VaultCall) (c : Fills) (stage count : ℕ) (made : List LifeAct) (in_flight : Option LifeAct) → MayBeCut p q call → IsMadeIn call stage made in_flight → IsCountIn p q call c stage count
    → IsLeftAsNoted p q call c count made in_flight

-- ---- by those of a run

-- so it is of the call that was refused, if one was
abbrev pub IsRunNoted : (most : ℕ) (p : Params) (q : RingPublic) (h : RingHidden) (refused : Option VaultCall) (words : List ℕ) (seen : List Event) (more : List Note) → IsRefusedShown most p q h refused words seen more → List LifeAct → Option LifeAct → Type 0
IsRunNoted most p q h None words seen more is made in_flight = Unit {0}
IsRunNoted most p q h (Some call) words seen more is made in_flight = IsLeftAsNoted p q call is.0 (length more) made in_flight

-- The gates of the epoch's register are found as closing and opening them leaves them: only an end does that.
abbrev pub AreGatesShown : Params → AllFills → HistoryTurn → Option VaultCall → (count : ℕ) → RunFound → Type 0
AreGatesShown p f t (Some (End writes)) count next = (next.epoch ≡ suc t.epoch → next.epoch_gate ≡ true) × (next.epoch ≡ t.epoch → IsGateLeft t.gate (length (notes_of_turn p f t) - count) next.epoch_gate)
AreGatesShown p f t refused count next = next.epoch_gate ≡ t.gate

-- What the next run finds, if there is one, has the gates so; and that of this run's generation stays open.
pub record AreGatesLeft (p : Params) (word_of : WordId → ℕ) (f : AllFills) (s : LifeState) (found : ℕ → Bool) (steps : List (Shape × Fills)) (refused : Option VaultCall) (acts : List LifeAct) (count : ℕ) (next : Option (ℕ → Bool)) : Type 0 where
  pub stays : (gates : ℕ → Bool) → next ≡ Some gates → (found_of_life p (reached p word_of s acts) gates).generation_gate ≡ true
  pub shown : (gates : ℕ → Bool) → next ≡ Some gates → AreGatesShown p f (turn_of_run p s found steps) refused count (found_of_life p (reached p word_of s acts) gates)

-- ---- by those of a row

module _ {S : Type 0} (disk : S → Disk) (keys : Keys) (p : Params) where
  -- of each run of the row it is so, in each life that it goes on with
  abbrev pub AreRunsNoted : (may_leave : Image → Type 0) (parts : List (RunPart S)) (rows : List (List Note)) → AreRunsFrom disk keys p may_leave parts → AreRunsTold disk keys p parts rows → Type 0
  AreRunsNoted may_leave [] rows from told = Unit {0}
  AreRunsNoted may_leave (Stopped old new ∷ parts) rows from told = Unit {0}
  AreRunsNoted may_leave (Served most old found opened calls steps behind refused words seen new ∷ parts) [] from told = Unit {0}
  AreRunsNoted may_leave (Served most old found opened calls steps behind refused words seen new ∷ parts) (notes ∷ rows) from told =
      ((word_of : WordId → ℕ) (s : LifeState) (here : IsInLife p word_of (ring_hidden found) s) (tape : AreTapeWords word_of (ring_hidden found).generation words) (m : Map nat_cmp) (is : IsRingMap keys p (disk opened) found m)
      → IsRunNoted most p (public_behind ring_kind p (ring_public p found) steps) behind refused words seen (told.0).more (told.0).refused_shown
      (((from.1).1 word_of s here tape).left m is).made (((from.1).1 word_of s here tape).left m is).in_flight)
      × AreRunsNoted (disk new).may_leave parts rows from.2 told.1

  module _ (word_of : WordId → ℕ) where
    -- and the gates are found so
    abbrev pub AreAllGatesLeft : (f : AllFills) (s : LifeState) (parts : List (RunPart S)) (rows : List (List Note)) → AreRunsTold disk keys p parts rows → (acts : List LifeAct) → AreServedParts disk keys p word_of s parts acts → Type 0
    AreAllGatesLeft f s [] rows told acts are = Unit {0}
    AreAllGatesLeft f s (Stopped old new ∷ parts) rows told acts are = Unit {0}
    AreAllGatesLeft f s (Served most old found opened calls steps behind refused words seen new ∷ parts) [] told acts are = Unit {0}
    AreAllGatesLeft f s (Served most old found opened calls steps behind refused words seen new ∷ parts) (notes ∷ rows) told acts are =
        AreGatesLeft p word_of f s (gates_open (((told.0).found_in).found).gates) steps refused are.0 (length (told.0).more) (first_gates disk keys p parts rows told.1)
        × AreAllGatesLeft f (reached p word_of s are.0) parts rows told.1 are.1 are.4

    -- The first run finds the gates closed that a format leaves so, and each leaves them as it showed.
    pub record IsRowGated (parts : List (RunPart S)) (rows : List (List Note)) (told : AreRunsTold disk keys p parts rows) (row : IsRowInLife disk keys p word_of parts) (f : AllFills) : Type 0 where
      pub first : (gates : ℕ → Bool) → first_gates disk keys p parts rows told ≡ Some gates
          → ((found_of_life p (formatted_life row.slot) gates).generation_gate ≡ false) × ((found_of_life p (formatted_life row.slot) gates).epoch_gate ≡ false)
      pub left : AreAllGatesLeft f (formatted_life row.slot) parts rows told row.acts row.parts_are

-- Runs over a formatted store, as above, each of whose refused calls left what its notes tell, are one life; and if the gates are found as their
-- writes and syncs leave them, their lines are a history's, and so admitted.
abbrev pub NotedRunsAreAdmitted : {S : Type 0} → (S → Disk) → Type 0
NotedRunsAreAdmitted {S} disk = (keys : Keys) (p : Params) (drawn : List ℕ) (made : S) (parts : List (RunPart S)) (rows : List (List Note)) → RingFormatted keys p drawn (disk made) → (from : AreRunsFrom disk keys p (disk made).may_leave parts)
    → (told : AreRunsTold disk keys p parts rows) → AreRunsNoted disk keys p (disk made).may_leave parts rows from told → (word_of : WordId → ℕ) → AreGiven word_of parts
    → (row : IsRowInLife disk keys p word_of parts) × (f : AllFills) × AreAllFills p f × FillsAll p word_of f (planned_labels p word_of (reached p word_of (formatted_life row.slot) row.acts)) (life_slots p word_of (formatted_life row.slot) row.acts)
    × (IsRowGated disk keys p word_of parts rows told row f → IsHistory p (lines_of_runs p rows) × AreAdmitted (lines_of_runs p rows))
