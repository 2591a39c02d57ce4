-- Rows of runs over a ring store, with crashes between calls, inside them and inside openings, as one list of events.
use Rattle.std.specs.Prelude.{◌≡◌, ◌⊎◌, ◌≤◌, ℕ, List, [], ◌∷◌, ◌++◌, take, Option, None, Some}
use Rattle.ob_base.specs.declared.fault.Fault.{Fault}
use Rattle.ob_base.specs.declared.params.Params.{Params}
use Rattle.ob_store.specs.declared.event.Event.{Event}
use Rattle.ob_store.specs.Disk.{Disk, Image}
use Rattle.ob_store.specs.Calls.{Notes}
use Rattle.ob_store.specs.Images.{IsSynced, Passes, Same}
use Rattle.ob_seal.specs.declared.keys.Keys.{Keys}
use Rattle.ob_serial.specs.Vaults.{Standing, VaultAnswer, VaultCall, VaultState}
use Rattle.ob_serial.specs.VaultKinds.{Kind}
use Rattle.ob_desk.specs.Desk.{Setup}
use Rattle.ob_stand.specs.Stands.{StandsRing}
use Rattle.ob_recover.specs.Life.{WordId, formatted_life}
use Rattle.ob_recover.specs.Telling.{ArePhasesMade, IsDealt}
use Rattle.ob_schedule.specs.Phases.{Reads}
use Rattle.ob_opening.specs.OpeningActs.{StandsInLife}
use Rattle.ob_opening.specs.OpeningRuns.{OpensFrom}
use Rattle.ob_vault.specs.Acts.{AreBatchesSmall, AreTapeWords}
use Rattle.ob_vault.specs.Kinds.{IsOpenedAt}
use Rattle.ob_vault.specs.RingKind.{IsRingFound, RingFound, ring_hidden, ring_kind, ring_public}
use Rattle.ob_vault.specs.RingSteps.{HasRingWords, RingAt}
use Rattle.ob_vault.specs.RingVaults.{RingSound, Running}
use Rattle.ob_vault.specs.Seen.{RingOpensPartly, opening_phases}
use Rattle.ob_world.specs.Courses.{course_of}
use Rattle.ob_world.specs.Laws.{IsOneRun}
use Rattle.ob_conduct.specs.Acts.{Act}
use Rattle.ob_world.specs.Weaves.{woven}
use Rattle.ob_world.specs.Worlds.{WorldEvent, Crash, Open, World, IsWorld, VaultEvent, first_world, opened_vault}
use Rattle.ob_ring_world.specs.Pasts.{RingPast, ShownRow, events_of_rows, format_row, formatted_past}
use Rattle.ob_ring_world.specs.RingCourses.{RingPromises, ring_course}

-- The words of a vault are those of a vault over a ring store; it is sound as that is, and its images are the store's.
pub record IsOverRing {V S : Type 0} (k : Kind V) (disk : S → Disk) (runs : V → Running S) : Type 0 where
  pub words : HasRingWords k disk runs
  pub sound : (v : V) (u : VaultState) → k.sound v u → RingSound (runs v).run (disk (runs v).store) u
  pub stands : (v : V) (image : Image) (at : Standing) → k.stands v image at → StandsRing ((runs v).run.sealer).keys (runs v).run.params ((runs v).run.sealer).generation image at
  pub since : (v w : V) (image : Image) → (disk (runs w).store).left_since (disk (runs v).store).moment image → (k.disk w).left_since (k.disk v).moment image

-- A run: the store as it was handed to the opening, the image that this found, for what that stood, and what was found in it; for whom it was
-- opened, and how many lanes read; the vault then; and what was done since, as a list of events.
pub record RingRun (V S : Type 0) : Type 0 where
  pub before : S
  pub image : Image
  pub standing : Standing
  pub found : RingFound
  pub clients : List ℕ
  pub lanes : ℕ
  pub first : V
  pub events : List WorldEvent
  pub last : World V

-- How it ended: not yet; it returned, or a crash came between calls, and left this image; or the crash came inside this call, which would
-- have answered so, and led there, behind so many of the calls that it would have made of its store.
pub data RunEnd (V : Type 0) : Type 0 where
  Serves : RunEnd V
  Returns : (image : Image) → RunEnd V
  Crashes : (image : Image) → RunEnd V
  CrashesIn : (call : VaultCall) (answer : VaultAnswer) (next : World V) (calls : ℕ) (image : Image) → RunEnd V

-- A run; or an opening by so many lanes that was refused, or inside which a crash came, behind so many of its store's calls, and which left
-- this image.
pub data RingPart (V S : Type 0) : Type 0 where
  Runs : (run : RingRun V S) (end : RunEnd V) → RingPart V S
  Stops : (old new : S) (lanes calls : ℕ) (image : Image) → RingPart V S

abbrev pub end_leaves : {V : Type 0} → RunEnd V → Image → Type 0
end_leaves Serves c = ⊥
end_leaves (Returns image) c = c ≡ image
end_leaves (Crashes image) c = c ≡ image
end_leaves (CrashesIn call answer next calls image) c = c ≡ image

-- ---- what an opening called its store for

-- the head's read, by one of so many lanes, and these events behind it; or not even that
abbrev pub IsSeenOpening : (lanes : ℕ) → List Event → Option (List Event) → Option (List Event) → Type 0
IsSeenOpening lanes all old new = ((all ≡ []) × Notes [] old new) ⊎ ((head : List Event) × IsDealt lanes (0 ∷ []) head × Notes (head ++ all) old new)

-- The head by itself, and then the schedule's opening of what was found; or what one that is refused may show.
abbrev pub OpensOrRefuses : Keys → (lanes : ℕ) → Params → (old new : Disk) → Type 0
OpensOrRefuses keys lanes p old new = ((refused : Fault) × RingOpensPartly keys lanes p old new refused)
    ⊎ ((f : RingFound) × (is : IsRingFound keys p old.cells f) × ArePhasesMade lanes (Reads (0 ∷ []) ∷ opening_phases p f.content f.records (f.run).epoch (f.run.sealer).generation (is.found).gates) old.seen new.seen)

-- ---- as events

abbrev pub events_of_end : {V : Type 0} → RunEnd V → List WorldEvent
events_of_end Serves = []
events_of_end (Returns image) = []
events_of_end (Crashes image) = Crash None image ∷ []
events_of_end (CrashesIn call answer next calls image) = Crash (Some call) image ∷ []

abbrev pub events_of_part : {V S : Type 0} → RingPart V S → List WorldEvent
events_of_part (Runs run end) = Open run.clients ∷ (run.events ++ events_of_end end)
events_of_part (Stops old new lanes calls image) = Crash None image ∷ []

abbrev pub events_of_parts : {V S : Type 0} → List (RingPart V S) → List WorldEvent
events_of_parts [] = []
events_of_parts (part ∷ parts) = events_of_part part ++ events_of_parts parts

module _ {V S : Type 0} (k : Kind V) (disk : S → Disk) (runs : V → Running S) (setup : Setup) (keys : Keys) (word_of : WordId → ℕ) where
  -- The opening found what the image tells, and where it stands, and gave a vault that begins there; what was done since is a list of
  -- events of that vault, as each run's is, in which it drew the words of its generation.
  pub record IsRingRun (run : RingRun V S) : Type 0 where
    pub found_in : IsRingFound keys setup.params run.image run.found
    pub stands : (generation : ℕ) × StandsRing keys setup.params generation run.image run.standing
    pub opened_at : IsOpenedAt ring_kind keys setup.params run.standing run.found (disk (runs run.first).store)
    pub shown : ArePhasesMade run.lanes (Reads (0 ∷ []) ∷ opening_phases setup.params run.found.content run.found.records run.found.run.epoch (run.found.run.sealer).generation found_in.found.gates)
        (disk run.before).seen (disk (runs run.first).store).seen
    pub at : RingAt k disk runs keys run.lanes setup.params run.found (disk (runs run.first).store) (ring_public setup.params run.found) (ring_hidden run.found) 0 run.first
    pub sound : k.sound run.first (opened_vault setup.params.batches run.standing run.found.run.left)
    pub one : IsOneRun run.events
    pub leads : IsWorld (course_of k) (first_world setup run.clients run.standing run.found.run.left run.first) run.events run.last
    pub tape : AreTapeWords word_of (ring_hidden run.found).generation (runs run.last.past).drawn

  -- the image was left at the end, or at some moment of the call
  abbrev pub IsEndOfRun : RingRun V S → RunEnd V → Type 0
  IsEndOfRun run Serves = Unit {0}
  IsEndOfRun run (Returns image) = (disk (runs run.last.past).store).may_leave image
  IsEndOfRun run (Crashes image) = (disk (runs run.last.past).store).may_leave image
  IsEndOfRun run (CrashesIn call answer next calls image) = VaultEvent (course_of k) run.last call answer next × (disk (runs next.past).store).left_since (disk (runs run.last.past).store).moment image
      × AreTapeWords word_of (ring_hidden run.found).generation (runs next.past).drawn

  -- Each begins at an image that may be left: the first at one of these, each later one at the one that was left before it.
  abbrev pub AreRingPartsFrom : (Image → Type 0) → List (RingPart V S) → Type 0
  AreRingPartsFrom may_leave [] = Unit {0}
  AreRingPartsFrom may_leave (Runs run end ∷ parts) = may_leave run.image × IsRingRun run × IsEndOfRun run end × AreRingPartsFrom (end_leaves end) parts
  AreRingPartsFrom may_leave (Stops old new lanes calls image ∷ parts) = may_leave (disk old).cells × (disk old).tells × IsSynced (disk old) × (Passes Same (disk old) (disk new) ⊎ OpensFrom disk keys setup.params old new)
      × (1 ≤ lanes) × OpensOrRefuses keys lanes setup.params (disk old) (disk new) × (disk new).left_since (disk old).moment image × AreRingPartsFrom (λ c. c ≡ image) parts

-- what was shown of the call inside which a crash came: the first of what it would have called its store for
abbrev pub IsShownAtEnd : {V S : Type 0} → (S → Disk) → (V → Running S) → (last : V) → RunEnd V → List ShownRow → Type 0
IsShownAtEnd disk runs last (CrashesIn call answer next calls image) cut = (all : List Event) × Notes all (disk (runs last).store).seen (disk (runs next.past).store).seen × (events_of_rows cut ≡ take calls all)
IsShownAtEnd disk runs last _ cut = cut ≡ []

-- The rows of these parts, the newest first, behind earlier ones: of each run its opening's, those of its calls, which are all that the store
-- was called for since, and that of the call inside which a crash came; of an opening that was refused or cut off, what it showed.
abbrev pub AreRowsOf : {V S : Type 0} → (S → Disk) → (V → Running S) → (earlier : List ShownRow) → List (RingPart V S) → (rows : List ShownRow) → Type 0
AreRowsOf disk runs earlier [] rows = rows ≡ earlier
AreRowsOf disk runs earlier (Runs run end ∷ parts) rows = (opening : ShownRow) × (calls : List ShownRow) × (cut : List ShownRow)
    × IsSeenOpening run.lanes opening.events (disk run.before).seen (disk (runs run.first).store).seen
    × Notes (events_of_rows calls) (disk (runs run.first).store).seen (disk (runs run.last.past).store).seen × IsShownAtEnd disk runs run.last.past end cut × AreRowsOf disk runs (cut ++ (calls ++ opening ∷ earlier)) parts rows
AreRowsOf disk runs earlier (Stops old new lanes calls image ∷ parts) rows =
    (cut : List ShownRow) × (all : List Event) × IsSeenOpening lanes all (disk old).seen (disk new).seen × (events_of_rows cut ≡ take calls all) × AreRowsOf disk runs (cut ++ earlier) parts rows

-- How a format ended: it returned, or a crash came inside it, and left this image.
pub data FormatEnd : Type 0 where
  Formats : FormatEnd
  FormatsPartly : (image : Image) → FormatEnd

abbrev pub left_by_format : Disk → FormatEnd → Image → Type 0
left_by_format made Formats c = made.may_leave c
left_by_format made (FormatsPartly image) c = c ≡ image

-- A life begins in each image that may have been left, and stands for the empty map.
pub record BeginsWorld (keys : Keys) (p : Params) (word_of : WordId → ℕ) (slot : ℕ → ℕ → ℕ) (leaves : Image → Type 0) (empty : Standing) : Type 0 where
  pub small : AreBatchesSmall (formatted_life slot).log
  pub begins : (c : Image) → leaves c → StandsInLife keys p word_of (formatted_life slot) c
  pub stands : (c : Image) → leaves c → (generation : ℕ) × StandsRing keys p generation c empty

-- Behind it, and so many of its calls, each row of runs is one list of events of the world over the ring, and its rows, with the format's, are
-- what was seen.
abbrev pub RingRunsAreWorlds : {V S : Type 0} → Kind V → (S → Disk) → Type 0
RingRunsAreWorlds {V} {S} k disk = (runs : V → Running S) → IsOverRing k disk runs
    → (setup : Setup) (keys : Keys) (word_of : WordId → ℕ) (slot : ℕ → ℕ → ℕ) (made : S) (end : FormatEnd) (empty : Standing) (calls : ℕ) (parts : List (RingPart V S))
    → BeginsWorld keys setup.params word_of slot (left_by_format (disk made) end) empty → AreRingPartsFrom k disk runs setup keys word_of (left_by_format (disk made) end) parts → (kept : RingPromises keys setup.params word_of slot)
    → (last : World RingPast) × IsWorld (ring_course keys setup.params word_of slot kept) (first_world setup [] empty 0 (formatted_past setup.params calls)) (events_of_parts parts) last
    × AreRowsOf disk runs (format_row setup.params calls ∷ []) parts last.past.rows

-- The events of acts have no crash and no opening, so what a run did can be a run's here.
abbrev pub ActsAreOneRun : Type 0
ActsAreOneRun = (acts : List Act) (reports : ℕ) → IsOneRun (woven acts reports)
