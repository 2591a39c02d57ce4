-- A run that is cut off in a stage of a call, as a part of a row of runs.
use Rattle.std.specs.Prelude.{◌≡◌, ◌↔◌, ℕ, zero, suc, ◌+◌, ◌%◌, Bool, List, [], ◌∷◌, ◌++◌, Option, None, Some}
use Rattle.std.specs.Ordering.{nat_cmp}
use Rattle.ob_base.specs.declared.params.Params.{Params}
use Rattle.ob_end.specs.Closings.{SameGeneration}
use Rattle.ob_end.specs.EndWrites.{SameFirst}
use Rattle.ob_end.specs.Moments.{AreMadeBut}
use Rattle.ob_end.specs.Shown.{before_gate}
use Rattle.ob_recover.specs.Known.{fills_with_lifts}
use Rattle.ob_store.specs.Calls.{Notes}
use Rattle.ob_store.specs.Told.{events_of}
use Rattle.ob_store.specs.declared.watch.Note.{Note}
use Rattle.ob_twin.specs.Orders.{set_notes, through_notes}
use Rattle.ob_twin.specs.Register.{body_at, gate_at, place_of}
use Rattle.ob_recover.specs.Life.{LifeAct, LifeState, ShowLifts, WordId}
use Rattle.ob_schedule.specs.Phases.{phases_of}
use Rattle.ob_schedule.specs.Schedule.{Fills, record_notes}
use Rattle.ob_seal.specs.declared.keys.Keys.{Keys}
use Rattle.ob_serial.specs.Serial.{Map}
use Rattle.ob_serial.specs.VaultKinds.{Called, Kind}
use Rattle.ob_serial.specs.Vaults.{End, Fetch, VaultAnswer, VaultCall}
use Rattle.ob_store.specs.Disk.{Disk, Image}
use Rattle.ob_store.specs.declared.event.Event.{Event}
use Rattle.ob_twin.specs.Keyed.{tagging}
use Rattle.ob_twin.specs.Stages.{AreSpans, IsLackingIn}
use Rattle.ob_twin.specs.Stops.{IsRegisterLeft}
use Rattle.ob_vault.specs.Acts.{AreTapeWords}
use Rattle.ob_vault.specs.Hidden.{AreFirst, RingHidden}
use Rattle.ob_vault.specs.Joined.{RunsAreOneLife}
use Rattle.ob_vault.specs.KindShown.{AreDrawn}
use Rattle.ob_vault.specs.Lives.{RingGoesOn}
use Rattle.ob_vault.specs.RingKind.{IsRingMap, RingFound, ring_hidden, ring_kind}
use Rattle.ob_vault.specs.RingSteps.{HasRingWords, RingAt}
use Rattle.ob_vault.specs.RingVaults.{Running}
use Rattle.ob_vault.specs.Seen.{RingPublic, ring_phases}
use Rattle.ob_vault.specs.Shapes.{Ends, Shape}
use Rattle.ob_vault.specs.Shown.{AreActsOf, IsInLife}

-- A stretch of a store's time, from the one to the other: it tells what it does at its end, and a crash leaves what it might have left at any
-- moment of the stretch.
abbrev pub span : {S : Type 0} → (S → Disk) → S × S → Disk
span disk x = record (disk x.1) { may_leave = (disk x.1).left_since (disk x.0).moment }

-- What may have been seen of a call by the end of its stage of this number, from 0: by those in which a batch's record is kept no more than the
-- first of its steps.
abbrev pub IsSeenIn : (most : ℕ) → Params → RingPublic → VaultCall → (stage : ℕ) → (seen : List Event) → Type 0
IsSeenIn most p q (Fetch asks) zero seen = AreFirst most (phases_of (record_notes p (((q.known).epoch + 1) % 2) q.shown)) seen
IsSeenIn most p q (Fetch asks) (suc zero) seen = AreFirst most (phases_of (record_notes p (((q.known).epoch + 1) % 2) q.shown)) seen
IsSeenIn most p q call stage seen = Unit {0}

-- The acts that are made by then, and in flight. Until the body of a batch's record was synced there are none; while its gate is opened none is
-- made; and behind that those of the batch. An end shows its lifts, and isn't in flight while it writes, its register's gate is closed, and the body
-- laid; only while the gate is opened.
abbrev pub IsMadeIn : VaultCall → (stage : ℕ) → (made : List LifeAct) → (in_flight : Option LifeAct) → Type 0
IsMadeIn (Fetch asks) zero made in_flight = (made ≡ []) × (in_flight ≡ None)
IsMadeIn (Fetch asks) (suc zero) made in_flight = made ≡ []
IsMadeIn (Fetch asks) (suc (suc stage)) made in_flight = AreActsOf (Fetch asks) made × (in_flight ≡ None)
IsMadeIn (End writes) zero made in_flight = (made ≡ ShowLifts ∷ []) × (in_flight ≡ None)
IsMadeIn (End writes) (suc zero) made in_flight = (made ≡ ShowLifts ∷ []) × (in_flight ≡ None)
IsMadeIn (End writes) (suc (suc zero)) made in_flight = (made ≡ ShowLifts ∷ []) × (in_flight ≡ None)
IsMadeIn (End writes) (suc (suc (suc stage))) made in_flight = made ≡ ShowLifts ∷ []

-- What a crash at a moment of it leaves of the head and of both registers, which had these cells: just these; but behind an end's writes the gates of
-- its own register by how many of its notes lack then.
abbrev pub AreRegistersIn : Keys → (epoch : ℕ) → (cells : Image) → VaultCall → (stage : ℕ) → Image → Type 0
AreRegistersIn keys epoch cells (Fetch asks) stage image = SameFirst image cells
AreRegistersIn keys epoch cells (End writes) zero image = SameFirst image cells
AreRegistersIn keys epoch cells (End writes) (suc stage) image = SameGeneration image cells × ((lacking : ℕ) → IsLackingIn stage lacking → IsRegisterLeft (tagging keys) 5 (suc epoch) cells lacking image)

-- It goes on with the life as one whose call was refused, and those acts are made of that.
abbrev pub StopsIn : Keys → (most : ℕ) → Params → RingFound → (opened : Disk) → List VaultCall → List (Shape × Fills) → (behind : RingHidden) → VaultCall → (words : List ℕ) → (seen : List Event) → (new : Disk) → (stage : ℕ) → Type 0
StopsIn keys most p f opened calls steps behind call words seen new stage = (goes : RingGoesOn keys most p f opened calls steps behind (Some call) words seen new)
    × ((word_of : WordId → ℕ) (s : LifeState) (here : IsInLife p word_of (ring_hidden f) s) (tape : AreTapeWords word_of (ring_hidden f).generation words) (m : Map nat_cmp) (is : IsRingMap keys p opened f m)
    → IsMadeIn call stage ((goes word_of s here tape).left m is).made ((goes word_of s here tape).left m is).in_flight)

-- what of the set of the epoch's register isn't made before its stage of this number
abbrev pub set_from : (closed_first : Bool) → (epoch stage : ℕ) → List Note
set_from closed_first epoch zero = set_notes closed_first 5 epoch
set_from closed_first epoch (suc zero) = through_notes (body_at 5 (place_of epoch)) ++ through_notes (gate_at 5 (place_of epoch))
set_from closed_first epoch (suc (suc stage)) = through_notes (gate_at 5 (place_of epoch))

-- What the store was called for by the beginning of a call's stage of this number: a batch's record's body, and then all of its record; all of an
-- end, but for the rest of its register's set.
abbrev pub IsCalledBefore : (most : ℕ) → Params → RingPublic → RingHidden → VaultCall → (stage : ℕ) → (old new : Option (List Event)) → Type 0
IsCalledBefore most p q h (Fetch asks) zero old new = Notes [] old new
IsCalledBefore most p q h (Fetch asks) (suc zero) old new = Notes (events_of (before_gate (record_notes p (((q.known).epoch + 1) % 2) q.shown))) old new
IsCalledBefore most p q h (Fetch asks) (suc (suc stage)) old new = Notes (events_of (record_notes p (((q.known).epoch + 1) % 2) q.shown)) old new
IsCalledBefore most p q h (End writes) zero old new = Notes [] old new
IsCalledBefore most p q h (End writes) (suc stage) old new =
    (closed : Bool) × AreMadeBut (set_from closed ((q.known).epoch + 1) stage) most (ring_phases p q Ends (fills_with_lifts p h.content h.records)) old new

-- The next call behind these, from what is public and what is hidden then, where the tape has given these words by its end. A run that is cut off in
-- its stage of this number, of a call that began at that store, goes on with each life as one whose call was refused, left as a crash may leave it
-- at any moment of the stage; of the call that was seen which may have been by the stage's end. It leaves the registers so too. The stage begins
-- behind just these calls of the store. A batch's record has two such stages, its body's and its gate's.
pub record IsCutIn {S : Type 0} (disk : S → Disk) (keys : Keys) (most : ℕ) (p : Params) (f : RingFound) (opened : Disk) (calls : List VaultCall) (steps : List (Shape × Fills)) (q : RingPublic) (h : RingHidden) (call : VaultCall) (words : List ℕ) (began : S) (stage : ℕ) (x : S × S) : Type 0 where
  pub stops : (seen : List Event) → IsSeenIn most p q call stage seen → StopsIn keys most p f opened calls steps h call words seen (span disk x) stage
  pub registers : (image : Image) → (span disk x).may_leave image → AreRegistersIn keys h.epoch (disk began).cells call stage image
  pub made : IsCalledBefore most p q h call stage (disk began).seen (disk x.0).seen

-- Behind calls that were answered, where a map was found, the next call has such stages, whatever it answers.
abbrev pub RunsStopInStages : {V S : Type 0} → Kind V → (S → Disk) → Type 0
RunsStopInStages {V} {S} k disk = (runs : V → Running S) → HasRingWords k disk runs → (keys : Keys) (most : ℕ) (p : Params) (f : RingFound) (first : V) (calls : List VaultCall) (steps : List (Shape × Fills)) (q : RingPublic) (h : RingHidden) (n : ℕ) (v : V)
    → AreDrawn ring_kind p (ring_hidden f) calls steps h → RingAt k disk runs keys most p f (disk (runs first).store) q h n v → (m : Map nat_cmp) → IsRingMap keys p (disk (runs first).store) f m
    → (call : VaultCall) (answer : VaultAnswer) (w : V) → Called k v call answer w
    → (ends : List S) × AreSpans (IsCutIn disk keys most p f (disk (runs first).store) calls steps q h call (runs w).drawn (runs v).store) 0 (runs v).store ends (runs w).store

-- So rows of runs that are cut off in stages are one life too; and a store alone is left as it may be left now.
pub record RowsOfStages {S : Type 0} (disk : S → Disk) : Type 0 where
  pub one_life : RunsAreOneLife (span disk)
  pub alone : (x : S) (c : Image) → (span disk (x, x)).may_leave c ↔ (disk x).may_leave c
