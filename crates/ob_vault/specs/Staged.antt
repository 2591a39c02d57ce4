-- The stages of a run: of its opening, and of each call of its vault; and a run that is cut off in one of them.
use Rattle.std.specs.Prelude.{◌≡◌, ℕ, ◌+◌, ◌%◌, Bool, true, List, [], ◌∷◌, length, Option, None, Some}
use Rattle.std.proofs.Common.{inr}
use Rattle.std.specs.Ordering.{nat_cmp}
use Rattle.ob_base.specs.declared.params.Params.{Params}
use Rattle.ob_end.specs.Moments.{AreMadeBut}
use Rattle.ob_opening.specs.OpeningActs.{IsLeftAt}
use Rattle.ob_recover.specs.Calls.{LifeCall, acts_of}
use Rattle.ob_recover.specs.Known.{fills_with_lifts}
use Rattle.ob_recover.specs.Life.{LifeAct, LifeState, WordId}
use Rattle.ob_schedule.specs.Schedule.{Fills, record_notes}
use Rattle.ob_seal.specs.declared.keys.Keys.{Keys}
use Rattle.ob_serial.specs.Serial.{Map}
use Rattle.ob_serial.specs.VaultKinds.{Called, Kind}
use Rattle.ob_serial.specs.Vaults.{End, Fetch, VaultAnswer, VaultCall}
use Rattle.ob_store.specs.Calls.{Notes}
use Rattle.ob_store.specs.Disk.{Disk, Image}
use Rattle.ob_store.specs.Images.{LeavesOnly}
use Rattle.ob_start.specs.Beginning.{ReadsThenSync}
use Rattle.ob_store.specs.Told.{events_of}
use Rattle.ob_store.specs.declared.event.Event.{Event}
use Rattle.ob_twin.specs.Orders.{set_notes}
use Rattle.ob_twin.specs.Stages.{AreSpans}
use Rattle.ob_vault.specs.Acts.{AreTapeWords, is_answered}
use Rattle.ob_vault.specs.Hidden.{RingDrawsCut, RingHidden}
use Rattle.ob_vault.specs.Joined.{IsRunTold, Served, Stopped}
use Rattle.ob_vault.specs.KindShown.{AreDrawn}
use Rattle.ob_vault.specs.Lives.{RingBegins}
use Rattle.ob_vault.specs.RingKind.{IsRingMap, RingFound, ring_hidden, ring_kind}
use Rattle.ob_vault.specs.RingLaws.{ReadsHead}
use Rattle.ob_vault.specs.RingSteps.{HasRingWords, RingAt}
use Rattle.ob_vault.specs.RingVaults.{Running}
use Rattle.ob_vault.specs.Seen.{RingPublic, ring_phases}
use Rattle.ob_vault.specs.Shapes.{Ends, Shape}
use Rattle.ob_vault.specs.Shown.{AreActsOf, AreFilledBy, IsInLife}
use Rattle.ob_vault.specs.Spans.{IsCutIn, IsSeenIn, span}
use Rattle.ob_vault.specs.Stages.{AreStages, BeginsBehind, HowFar, IsOpeningStaged, IsStage, stages_done, stages_of}

-- ---- a call

-- What the store is called for by the end of a call's first stage, where the other one follows: a batch's record, and no read of the batch; all of an
-- end, its lifts first, but for the set of the register by which the epoch ends.
abbrev pub IsCalledFirst : (most : ℕ) → Params → RingPublic → RingHidden → VaultCall → (old new : Option (List Event)) → Type 0
IsCalledFirst most p q h (Fetch asks) old new = Notes (events_of (record_notes p (((q.known).epoch + 1) % 2) q.shown)) old new
IsCalledFirst most p q h (End writes) old new = (closed : Bool) × AreMadeBut (set_notes closed 5 ((q.known).epoch + 1)) most (ring_phases p q Ends (fills_with_lifts p h.content h.records)) old new

-- The next call behind these, from what is public and what is hidden then, where the tape has given these words by its end.
module _ {S : Type 0} (disk : S → Disk) (keys : Keys) (most : ℕ) (p : Params) (f : RingFound) (opened : Disk) (calls : List VaultCall) (steps : List (Shape × Fills)) (q : RingPublic) (h : RingHidden) (call : VaultCall) (words : List ℕ) where
  -- Its acts, and the stores at the ends of its stages: all of them where it was answered, else the first ones, or none, where nothing was done. So
  -- it is in each life that is where this is hidden, whose acts fill the call's holes.
  pub record IsCallStaged (answered : Bool) (old new : S) : Type 0 where
    pub acts : LifeCall
    pub are : AreActsOf call (acts_of acts)
    pub ends : List S
    pub stages : (word_of : WordId → ℕ) (s : LifeState) → IsInLife p word_of h s → AreTapeWords word_of h.generation words
        → AreStages (IsStage disk keys p word_of s) (λ stage end. IsCalledFirst most p q h call (disk old).seen (disk end).seen) 0 (stages_of None acts) old ends new
    pub filled : (word_of : WordId → ℕ) (s : LifeState) → IsInLife p word_of h s → AreTapeWords word_of h.generation words → (fills : Fills) → RingDrawsCut p h call fills words → AreFilledBy p word_of s (acts_of acts) call fills
    pub whole : answered ≡ true → length ends ≡ 2
    pub idle : ends ≡ [] → (word_of : WordId → ℕ) (s : LifeState) → IsInLife p word_of h s → LeavesOnly (disk old) (disk new) (IsLeftAt keys p word_of s None)
    pub cut_at : List S
    pub cut : AreSpans (IsCutIn disk keys most p f opened calls steps q h call words old) 0 old cut_at new

-- where a map was found
abbrev pub RingCallStaged : {S : Type 0} → (S → Disk) → Keys → (most : ℕ) → Params → RingFound → (opened : Disk) → List VaultCall → List (Shape × Fills) → RingPublic → RingHidden → VaultCall → (words : List ℕ) → (answered : Bool) → (old new : S) → Type 0
RingCallStaged disk keys most p f opened calls steps q h call words answered old new = (m : Map nat_cmp) → IsRingMap keys p opened f m → IsCallStaged disk keys most p f opened calls steps q h call words answered old new

-- ---- an opening

-- up to the end of the first stage, where another follows, only reads were called for, and a sync
abbrev pub IsCalledToSync : {S : Type 0} → (S → Disk) → (read : S) → (ends : List S) → Type 0
IsCalledToSync disk read (first ∷ next ∷ ends) = ReadsThenSync (disk read) (disk first)
IsCalledToSync disk read ends = Unit {0}

-- A run that is cut off in one of so many stages of its opening, behind the head's read, made some of the opening's acts, and was left so at any
-- moment of the stage: it is a part of a row of runs.
pub record IsOpeningCut {S : Type 0} (disk : S → Disk) (keys : Keys) (p : Params) (old read new : S) (stages : ℕ) : Type 0 where
  pub ends : List S
  pub many : length ends ≡ stages
  pub called : IsCalledToSync disk read ends
  pub cut : AreSpans (λ stage x. IsRunTold (span disk) keys p (Stopped (old, old) x)) 0 read ends new

-- The head was read, which changes no image; and from there on the store was opened in three stages, in each life that was left there, perhaps
-- with an act in flight.
pub record RingOpensStaged {S : Type 0} (disk : S → Disk) (keys : Keys) (p : Params) (old new : S) : Type 0 where
  pub read : S
  pub head : ReadsHead (disk old) (disk read)
  pub begins : BeginsBehind disk keys p read new
  pub staged : (word_of : WordId → ℕ) (s : LifeState) (pending : Option LifeAct) → (disk old).tells → IsLeftAt keys p word_of s pending (disk old).cells → ((c : Image) → (disk old).may_leave c → IsLeftAt keys p word_of s pending c)
      → IsOpeningStaged disk keys p read new word_of s pending (inr (inr begins))
  pub cut : (disk old).tells → IsOpeningCut disk keys p old read new 3

-- ---- the laws

-- Each call of a vault behind calls that were answered comes in such stages, whatever it answers.
abbrev pub CallsComeInStages : {V S : Type 0} → Kind V → (S → Disk) → Type 0
CallsComeInStages {V} {S} k disk = (runs : V → Running S) → HasRingWords k disk runs → (keys : Keys) (most : ℕ) (p : Params) (f : RingFound) (first : V) (calls : List VaultCall) (steps : List (Shape × Fills)) (q : RingPublic) (h : RingHidden) (n : ℕ) (v : V)
    → AreDrawn ring_kind p (ring_hidden f) calls steps h → RingAt k disk runs keys most p f (disk (runs first).store) q h n v
    → (call : VaultCall) (answer : VaultAnswer) (w : V) → Called k v call answer w → RingCallStaged disk keys most p f (disk (runs first).store) calls steps q h call (runs w).drawn (is_answered answer) (runs v).store (runs w).store

-- A run that was cut off in a stage of a call, or of its opening, answered or refused, is a part of a row of runs, over the stretch of time of
-- that stage.
pub record CutRunsAreTold {S : Type 0} (disk : S → Disk) : Type 0 where
  pub calls : (keys : Keys) (most : ℕ) (p : Params) (f : RingFound) (old opened from to : S) (calls : List VaultCall) (steps : List (Shape × Fills)) (q : RingPublic) (h : RingHidden) (call : VaultCall) (words : List ℕ) (answered : Bool)
      → RingBegins keys p (disk old).cells f → ((m : Map nat_cmp) × IsRingMap keys p (disk opened) f m) → (staged : IsCallStaged disk keys most p f (disk opened) calls steps q h call words answered from to)
      → AreSpans (λ stage x. (seen : List Event) → IsSeenIn most p q call stage seen → IsRunTold (span disk) keys p (Served most (old, old) f (opened, opened) calls steps h (Some call) words seen x)) 0 from staged.cut_at to
  pub openings : (keys : Keys) (p : Params) (old read new : S) → ReadsHead (disk old) (disk read) → (disk old).tells → (how : HowFar disk keys p read new) → IsOpeningCut disk keys p old read new (stages_done disk keys p read new how)
