-- What `run` does.
use Rattle.std.specs.Prelude.{◌≤◌, ℕ, suc, true, false, ◌≡◌, ◌⊎◌, ◌+◌, List, [], ◌∷◌, ◌++◌, length, map, Option, Some, None, Err, decimal}
use Rattle.std.specs.Ordering.{nat_cmp}
use Rattle.ob_base.specs.declared.params.Params.{Params}
use Rattle.ob_seal.specs.declared.keys.Keys.{Keys}
use Rattle.ob_seal.specs.Sealing.{Sealing}
use Rattle.ob_base.specs.declared.fault.Fault.{Fault}
use Rattle.ob_base.specs.declared.fault.Field.{Field}
use Rattle.ob_base.specs.declared.fault.Fault.TheVariants.{Memory, BadParams, BadScript, StoreFault, SourceFault, SinkFault}
use Rattle.ob_base.specs.Causes.{Rose}
use Rattle.ob_io.specs.Flows.{appended, IsInput}
use Rattle.ob_report.specs.Faults.{status_of, fault_line}
use Rattle.ob_io.specs.Streams.{Flow}
use Rattle.ob_report.specs.Printed.{IsPrinted}
use Rattle.ob_report.specs.Report.{report}
use Rattle.ob_store.specs.declared.event.Event.{Event}
use Rattle.ob_store.specs.declared.watch.Note.{Note}
use Rattle.ob_store.specs.declared.watch.Note.TheVariants as note
use Rattle.ob_store.specs.Lines.{Shows, Trace}
use Rattle.ob_twin.specs.Clear.{AreInClear, AreInClearBut}
use Rattle.ob_twin.specs.Got.{DoesReads}
use Rattle.ob_twin.specs.Keyed.{tagging}
use Rattle.ob_conduct.specs.declared.run_err.RunErr.{RunErr}
use Rattle.ob_store.specs.declared.event.Event.TheVariants as event
use Rattle.ob_store.specs.Disk.{Disk, Image}
use Rattle.ob_store.specs.Images.{IsImageOf, IsSynced, LeavesOnly, Passes, Same}
use Rattle.ob_store.specs.Calls.{GoesOn, Keeps, Notes, IsStoreFault, NotesReads}
use Rattle.ob_serial.specs.Serial.{EpochRecord, Map, OneByOne, committed_of}
use Rattle.ob_serial.specs.Vaults.{VaultCall, VaultAnswer, VaultState, Standing, StandsIn}
use Rattle.ob_recover.specs.Telling.{ArePhasesMade}
use Rattle.ob_pads.specs.Lives.{Opens, LivesOn, LivesTo}
use Rattle.ob_vault.specs.Shapes.{Shape, answered, shapes, refused}
use Rattle.ob_vault.specs.KindLives.{LifeWords}
use Rattle.ob_vault.specs.Openings.{OpensStanding}
use Rattle.ob_vault.specs.Kinds.{StoreKind, Stands, AllStand, StandsAsBefore, IsOpenedAt, opened_with}
use Rattle.ob_vault.specs.KindShown.{IsCutShown, public_behind, steps_notes}
use Rattle.ob_shares.specs.declared.shares.Shares.{Shares}
use Rattle.ob_desk.specs.Desk.{MayOpen, new_desk, setup_with}
use Rattle.ob_script.specs.Script.{Scripts, IsFirstBad, limit}
use Rattle.ob_conduct.specs.declared.run_err.RunErr.TheVariants as failed
use Rattle.ob_conduct.specs.Acts.{Act, calls}
use Rattle.ob_conduct.specs.Records.{contents}
use Rattle.ob_conduct.specs.Left.{IsLeftStanding, IsLeftNow}
use Rattle.ob_run.specs.Threaded.{AreShaped}
use Rattle.ob_outcomes.specs.Served.{IsServed, ClientsServedAll}
use Rattle.ob_top.specs.Audited.{AuditWords}
use Rattle.ob_top.specs.Endings.{IsNextBy, LinesStand, told_fault}
use Rattle.ob_top.specs.Listed.{AreListed}
use Rattle.ob_top.specs.Outside.{Outside, ErrTold, Given, outside}
use Rattle.ob_top.specs.Sound.{StandsOn}
use Rattle.ob_opening.specs.OpeningRuns.{RefusedDoes}
use Rattle.ob_top.specs.Staged.{CallsStaged, OpensStaged}
use Rattle.ob_top.specs.Parts.{begin_phases, head_cells, IsTraced, CameIn, IsShareRefused, SharesFit, IsInClearBehind, IsOpened, EndsWith, Manner, IsNextEpoch, StagedFrom}

-- What is seen of the head's read, which is of these cells, and what the watch is shown of it.
abbrev pub head_reads : List ℕ → List Event
head_reads head = map (λ cell. event.Read cell) head

abbrev pub notes_of_head : List ℕ → List Note
notes_of_head head = map (λ cell. note.Read cell) head

-- What the watch is shown of the opening: the head's read, and the notes that the kind of store gives.
abbrev pub beginning_notes : (store : StoreKind) → (head : List ℕ) → Params → store.Found → store.Start → List Note
beginning_notes store head p found start = notes_of_head head ++ store.open_notes p found start

-- The head's read was shown, behind which the watch was whole, and then these notes were.
pub record ShownBehindHead (head_is : List ℕ) (notes : List Note) (before after : Trace) : Type 0 where
  pub between : Trace
  pub head : Shows (notes_of_head head_is) before between
  pub whole : between.broken ≡ false
  pub behind : Shows notes between after

-- The notes of each of the vault's calls that were answered,
abbrev pub steps_rows : (store : StoreKind) → Params → store.Public → List (Shape × store.Drawn) → List (List Note)
steps_rows store p q [] = []
steps_rows store p q (step ∷ steps) = store.notes p q step.0 step.1 ∷ steps_rows store p (store.next p q step.0 step.1) steps

-- and those of one that was refused, where one was.
abbrev pub refused_row : Option VaultCall → List Note → List (List Note)
refused_row None notes = []
refused_row (Some call) notes = notes ∷ []

-- Rows of notes were shown one behind the other, and the watch was whole before each of them.
abbrev pub EachShown : List (List Note) → Trace → Trace → Type 0
EachShown [] before after = after ≡ before
EachShown (row ∷ rows) before after = (before.broken ≡ false) × ((between : Trace) × Shows row before between × EachShown rows between after)

-- What the watch was shown of serving, beside what is seen of it: the notes of the vault's calls, one behind the other, filled by what they
-- drew, and of a call that was refused what its fault allows. Each call was made under a watch that was whole.
pub record IsShownToWatch (store : StoreKind) (most : ℕ) (p : Params) (found : store.Found) (words : List ℕ) (asked : List (VaultCall × VaultAnswer)) (fault : Option Fault) (events : List Event)
    (traced : IsTraced store most p found words asked fault events) (before after : Trace) : Type 0 where
  pub last : List Note
  pub cut : IsCutShown store most p (public_behind store p (store.public p found) traced.steps) traced.behind (refused asked) words fault traced.more traced.cut last
  pub shows : Shows (steps_notes store p (store.public p found) traced.steps ++ last) before after
  pub each : EachShown (steps_rows store p (store.public p found) traced.steps ++ refused_row (refused asked) last) before after

-- The input failed, or is no script.
abbrev pub IsInputRefused : ℕ → Flow → Flow → Fault → Type 0
IsInputRefused keys before after Memory = Unit {0}
IsInputRefused keys before after SourceFault = Rose before.faults after.faults
IsInputRefused keys before after (BadScript line) = (input : List ℕ) × IsInput before.bytes limit input × IsFirstBad keys input line
IsInputRefused keys before after _ = ⊥

-- A script came in, whose clients may not have the shares that are asked for: the first one that they may not have is told.
abbrev pub AreSharesRefused : Params → Shares → Flow → Fault → Type 0
AreSharesRefused p shares before fault = (field : Field) × (fault ≡ BadParams field) × (script : Scripts) × CameIn p.keys before script × IsShareRefused p script shares field

-- What is seen of an opening that was refused, and what the watch was shown of it: with the head's read in front, as the kind of store tells; or
-- what it did behind the head.
abbrev pub PartlySeen : List ℕ → (store : StoreKind) → Keys → (most : ℕ) → Params → Disk → Disk → Fault → Type 0
PartlySeen [] store keys most p old new fault = Unit {0}
PartlySeen (cell ∷ head) store keys most p old new fault = store.opens_partly keys most p old new fault

abbrev pub PartlyShown : List ℕ → (store : StoreKind) → {S : Type 0} → (S → Disk) → Keys → (most : ℕ) → Params → Disk → Disk → Trace → Trace → Fault → Type 0
PartlyShown [] store disk keys most p old new t u fault = RefusedDoes keys most p old new t u fault
PartlyShown (cell ∷ head) store disk keys most p old new t u fault = store.opens_shown disk keys most p old new t u fault

-- The head's read was shown, behind which the store was this one, as it was before. From there on the opening stopped so; so far it came.
pub record StopsBehindHead (store : StoreKind) (audit : AuditWords store) (head_is : List ℕ) (keys : Keys) (most : ℕ) (p : Params) {S : Type 0} (disk : S → Disk) (old : Disk) (new : S) (t u : Trace) (fault : Fault) : Type 0 where
  pub read : S
  pub between : Trace
  pub keeps : Keeps old (disk read)
  pub passes : Passes Same old (disk read)
  pub head : Shows (notes_of_head head_is) t between
  pub seen : Notes (head_reads head_is) old.seen (disk read).seen
  pub stops : audit.opening_stops keys most p (disk read) (disk new) between u fault
  pub far : audit.opening_far disk keys p read new

-- what the watch told before an early end, and behind it
module _ (store : StoreKind) (life : LifeWords store) (audit : AuditWords store) (head_is : List ℕ) (keys : Keys) (most : ℕ) (shares : Shares) (old new : Disk) (t u : Trace) where
  -- The head was refused: all that was done is to read it.
  pub record StopsAtHead (before after : Flow) (fault : Fault) : Type 0 where
    pub own : head_is ≡ head_cells
    pub untouched : after ≡ before
    pub kind : store.head_fault fault
    pub read : old.tells → store.head_read keys (old.cells 0) (Err fault)
    pub cause : IsStoreFault fault → Rose old.faults new.faults
    pub keeps : Keeps old new
    -- a crash leaves what it might have left before
    pub passes : Passes Same old new
    -- the head's cell is read, unless the store failed
    pub seen : NotesReads {V = Params} (event.Read 0 ∷ []) old.seen new.seen (Err fault)
    pub shown : DoesReads {V = Params} (note.Read 0 ∷ []) old.seen new.seen t u (Err fault)

  -- The input was refused, or the shares for what came in, once the head was read, behind which the watch is whole.
  pub record StopsAtInput (before after : Flow) (fault : Fault) : Type 0 where
    pub p : Params
    pub head : old.tells → store.is_head keys p (old.cells 0)
    pub refused : IsInputRefused p.keys before after fault ⊎ AreSharesRefused p shares before fault
    pub keeps : Keeps old new
    -- a crash leaves what it might have left before
    pub passes : Passes Same old new
    pub seen : Notes (head_reads head_is) old.seen new.seen
    pub shown : Shows (notes_of_head head_is) t u
    pub whole : u.broken ≡ false

  -- Opening was refused, once the script had come in, and left this store.
  pub record StopsAtOpening {S : Type 0} (disk : S → Disk) (last : S) (before : Flow) (fault : Fault) : Type 0 where
    pub p : Params
    pub head : old.tells → store.is_head keys p (old.cells 0)
    pub script : Scripts
    pub came : CameIn p.keys before script
    pub fits : SharesFit p script shares
    pub kind : store.open_fault fault
    pub read : old.tells → store.refuses keys p old.cells fault
    pub cause : IsStoreFault fault → Rose old.faults new.faults
    pub seen : PartlySeen head_is store keys most p old new fault
    pub shown : PartlyShown head_is store disk keys most p old new t u fault
    -- what it left of the registers' gates is as its notes tell
    pub stops : StopsBehindHead store audit head_is keys most p disk old last t u fault
    -- behind the head's read the watch was whole
    pub behind_head : (notes : List Note) × ShownBehindHead head_is notes t u
    -- unless it may have begun the next generation, no cell is written, and a crash leaves what it might have left before
    pub unwritten : (store.may_begin fault → ⊥) → Keeps old new × Passes Same old new
    -- each image that a crash leaves stands as one did before; and from the first sync on for what the store stood for
    pub left : (at : Standing) → old.tells → Stands store keys p old.cells at → AllStand store keys p old → LeavesOnly old new (StandsAsBefore store keys p old)
    pub opens : Passes Same old new ⊎ OpensStanding store disk keys p old new
    -- some of an opening's acts were made, in each life that the cells stood for
    pub stops_life : old.tells → life.stops keys p old new

  -- The watch broke at the head's read, and nothing else was done.
  pub record BreaksAtHead (before after : Flow) : Type 0 where
    pub own : head_is ≡ head_cells
    pub untouched : after ≡ before
    pub p : Params
    pub head : old.tells → store.is_head keys p (old.cells 0)
    pub keeps : Keeps old new
    -- a crash leaves what it might have left before
    pub passes : Passes Same old new
    pub seen : Notes (event.Read 0 ∷ []) old.seen new.seen
    pub shown : Shows (note.Read 0 ∷ []) t u
    pub broken : u.broken ≡ true

  -- It was whole behind the head's read, and broke in the opening, which was finished, from that store to this one.
  pub record BreaksAtOpening {S : Type 0} (disk : S → Disk) (first last : S) (before : Flow) : Type 0 where
    pub p : Params
    pub script : Scripts
    pub found : store.Found
    pub start : store.Start
    pub opened : IsOpened store keys old before p script found start
    pub fits : SharesFit p script shares
    pub seen : ArePhasesMade most (begin_phases store head_is p found start) old.seen new.seen
    pub shown : ShownBehindHead head_is (store.open_notes p found start) t u
    pub broken : u.broken ≡ true
    -- where the store stood, the opened store stands for that, whatever crashes
    pub stood : (at : Standing) → old.tells → Stands store keys p old.cells at → IsOpenedAt store keys p at found new
    pub left : (at : Standing) → old.tells → Stands store keys p old.cells at → AllStand store keys p old → LeavesOnly old new (StandsAsBefore store keys p old)
    pub opens : OpensStanding store disk keys p old new
    pub opens_life : old.tells → life.begins keys p old.cells found
    pub opens_staged : OpensStaged head_is store life disk keys p first last

  -- Nothing was run: the head, the input or the opening was refused; or the watch broke by then.
  abbrev pub EndsEarly : {S : Type 0} → (S → Disk) → (first last : S) → Flow → Flow → RunErr → Type 0
  EndsEarly disk first last before after (failed.Fault fault) = StopsAtHead before after fault ⊎ StopsAtInput before after fault ⊎ StopsAtOpening disk last before fault
  EndsEarly disk first last before after failed.Unwatched = BreaksAtHead before after ⊎ BreaksAtOpening disk first last before

-- Why serving ended: the script did; memory was wanting; the output failed; the watch's sink did, and it broke; the store failed, perhaps at the last
-- write or sync of the end of the epoch behind n; or the vault refused this call for a cause of its kind, from what was hidden behind calls of these shapes.
abbrev pub EndsFor : (store : StoreKind) → Keys → Params → store.Found → (opened : Disk) → store.Hidden → List Shape → ℕ → Option VaultCall → (words : List ℕ) → Disk → Disk → Flow → Flow → Trace → Trace → Option RunErr → Type 0
EndsFor store keys p found opened h behind n call words old new before after t u None = Unit {0}
EndsFor store keys p found opened h behind n call words old new before after t u (Some (failed.Fault Memory)) = Unit {0}
EndsFor store keys p found opened h behind n call words old new before after t u (Some (failed.Fault SinkFault)) = Rose before.faults after.faults
EndsFor store keys p found opened h behind n call words old new before after t u (Some failed.Unwatched) = (u.broken ≡ true) × Rose t.faults u.faults
EndsFor store keys p found opened h behind n call words old new before after t u (Some (failed.Fault (StoreFault unsure))) = Rose old.faults new.faults × ((unsure ≡ None) ⊎ (unsure ≡ Some (suc (store.epoch found + n))))
EndsFor store keys p found opened h behind n call words old new before after t u (Some (failed.Fault fault)) = store.causes keys p found opened new h behind n call words fault

-- A script was served over a store that was opened so, all of each client's part where there was no fault. The committed transactions
-- ran one by one from the map that was found, in the order of their epochs and tickets.
pub record ScriptServed (store : StoreKind) (by : Manner) (keys : Keys) (p : Params) (opened : Disk) (found : store.Found) (script : Scripts) (records : List (EpochRecord ℕ)) (err : Option RunErr) : Type 0 where
  -- By hand the acts are whole rounds; by threads they are, without the clients' turns, things that the driver does.
  pub served : IsServed (AreShaped by.threads script.clients) (store.is_map keys p opened found) by.beat (setup_with p by.shares) (store.epoch found) (store.left p found) script records
  pub all : err ≡ None → ClientsServedAll script records
  pub ends : EndsWith err served.evidence.acts served.evidence.desk
  pub opens : MayOpen (setup_with p by.shares) (suc (store.epoch found)) (store.left p found) script.clients
  pub one_by_one : (m : Map nat_cmp) → store.is_map keys p opened found m → OneByOne nat_cmp m (committed_of records) (contents m records)

module _ (store : StoreKind) (keys : Keys) (p : Params) (shares : Shares) (found : store.Found) (at : Standing) (script : Scripts) (records : List (EpochRecord ℕ)) (err : Option RunErr) where
  -- what the vault held once the store was opened
  abbrev pub held : VaultState
  held = opened_with p (store.left p found) at

  -- it stands for this, at the new generation
  abbrev pub StandsNow : (Standing → Type 0) → Image → Type 0
  StandsNow allowed = StandsIn (store.stands keys p (store.generation found)) allowed

  -- the answer tells that the end of the epoch behind the records is in doubt
  abbrev pub IsDoubt : Type 0
  IsDoubt = err ≡ Some (failed.Fault (StoreFault (Some (suc at.epoch + length records))))

  module _ (acts : List Act) where
    -- the epoch whose end was begun last is the one that the desk had closed, as these acts tell
    abbrev pub IsClosedNext : Option (EpochRecord ℕ) → Type 0
    IsClosedNext next = IsNextBy (new_desk (setup_with p shares) (suc (store.epoch found)) (store.left p found) script.clients) acts next

    -- What a crash leaves of the store, from when it was opened at an epoch and its map: an image that stands for a front of the records
    -- laid over that map, or for all of them and the epoch whose end was begun. At the return it stands for all of them, or, only where that
    -- is answered, for the epoch in doubt as well; so for none below the last one that is reported.
    pub record IsLeftOnDisk {S : Type 0} (disk : S → Disk) (old new : Disk) : Type 0 where
      pub next : Option (EpochRecord ℕ)
      pub is_next : IsNextEpoch (store.is_map keys p old found) (suc at.epoch + length records) script records next
      pub closed : IsClosedNext next
      pub since : LeavesOnly old new (StandsNow (IsLeftStanding held records next))
      pub stages : StagedFrom disk (store.stands keys p (store.generation found)) at records next old new
      pub now : (c : Image) → IsImageOf new c → StandsNow (IsLeftNow held records next IsDoubt) c

-- The head was read, and then the store was opened with this sealer.
pub record IsReadAndOpened {S : Type 0} (disk : S → Disk) (keys : Keys) (old new : S) (sealing : Sealing) : Type 0 where
  pub read : S
  pub head : (disk new).tells → LivesOn disk keys old read []
  pub opens : (disk new).tells → Opens keys (disk read) (disk new) sealing
  pub clear : (disk new).tells → AreInClear (tagging keys) (disk old).cells (disk new).cells

-- Where nothing was run: no vault's call is in the store's life, and this stands in the clear.
abbrev pub LivesUnserved : {S : Type 0} → (S → Disk) → Keys → S → S → Type 0
LivesUnserved disk keys old new = LivesOn disk keys old new [] × AreInClearBut (tagging keys) (disk new).seen (disk old).cells (disk new).cells

-- Where an opening gave this sealer, the life of the store that was opened went on with calls that had these answers; behind those that weren't
-- refused the next seal has this number.
abbrev pub LivesBehind : {S : Type 0} → (S → Disk) → Keys → Sealing → S → S → List VaultAnswer → (number : ℕ) → Type 0
LivesBehind {S} disk keys sealing opened new answers number = (old : S) → ((disk opened).tells → Opens keys (disk old) (disk opened) sealing) → (disk new).tells → LivesTo disk keys old new answers number

-- From a map that was found on, at the epoch that was, the acts are a list of the world's events.
abbrev pub ListsActs : (store : StoreKind) → Keys → Params → Shares → (opened : Disk) → store.Found → Scripts → List Act → Type 0
ListsActs store keys p shares opened found script acts = (m : Map nat_cmp) → store.is_map keys p opened found m → AreListed store keys (setup_with p shares) (record { epoch = store.epoch found; content = m }) (store.left p found) script.clients acts

-- What serving does to the store and the output, and what the watch is shown of it; behind it the tape has given these words.
pub record ServedOver (store : StoreKind) (life : LifeWords store) (audit : AuditWords store) {S : Type 0} (disk : S → Disk) (by : Manner) (keys : Keys) (p : Params) (found : store.Found) (sealing : Sealing) (script : Scripts) (tape : Given) (old new : S) (before after : Flow)
    (t u : Trace) (err : Option RunErr) : Type 0 where
  pub records : List (EpochRecord ℕ)
  pub is_served : ScriptServed store by keys p (disk old) found script records err
  pub world : ListsActs store keys p by.shares (disk old) found script is_served.served.evidence.acts
  -- all lines of so many records stand
  pub whole : ℕ
  pub lines : LinesStand err records whole before after
  pub events : List Event
  pub traced : IsTraced store by.lanes p found tape.words (calls is_served.served.evidence.acts) (told_fault err) events
  -- the tape is in the generation that was found
  pub in_generation : tape.generation ≡ store.generation found
  pub shown : IsShownToWatch store by.lanes p found tape.words (calls is_served.served.evidence.acts) (told_fault err) events traced t u
  -- one that is over has a whole watch
  pub watched : err ≡ None → u.broken ≡ false
  pub cause : EndsFor store keys p found (disk old) traced.behind (shapes (calls is_served.served.evidence.acts)) (length records) (refused (calls is_served.served.evidence.acts)) tape.words (disk old) (disk new) before after t u err
  pub seen : Notes events (disk old).seen (disk new).seen
  pub goes : GoesOn (disk old) (disk new)
  -- unless there was a fault, cells are told where they were
  pub tells : err ≡ None → (disk old).tells → (disk new).tells
  pub left : (at : Standing) → (disk old).tells → IsSynced (disk old) → IsOpenedAt store keys p at found (disk old) → IsLeftOnDisk store keys p by.shares found at script records err is_served.served.evidence.acts disk (disk old) (disk new)
  -- the next seal has the number that is hidden behind the calls that were answered
  pub seals_on : LivesBehind disk keys sealing old new (map (λ s. s.1) (calls is_served.served.evidence.acts)) (store.seals traced.behind)
  pub clear : (disk new).tells → IsInClearBehind keys (disk old) (disk new) err
  pub goes_on : life.goes_on keys by.lanes p found (disk old) (answered (calls is_served.served.evidence.acts)) traced.steps traced.behind (refused (calls is_served.served.evidence.acts)) tape.words traced.more (disk new)
  -- Call by call in stages, from the store that was opened to the one that is left; and what a crash leaves within a call, of it and of the registers'
  -- gates, is as so many notes tell as may have been shown by then.
  pub staged : CallsStaged store life audit disk keys by.lanes p found (disk old) (refused (calls is_served.served.evidence.acts)) tape.words traced.behind new [] [] (store.public p found) (store.hidden p found) (answered (calls is_served.served.evidence.acts)) traced.steps old
  -- what is left of a call that was refused, and of the registers' gates, is as its notes tell
  pub audited : audit.leaves_as_shown keys by.lanes p found (disk old) (answered (calls is_served.served.evidence.acts)) traced.steps traced.behind (refused (calls is_served.served.evidence.acts)) tape.words traced.more shown.last (disk new)

-- behind the run the tape has given this
module _ (store : StoreKind) (life : LifeWords store) (audit : AuditWords store) {S : Type 0} (disk : S → Disk) (by : Manner) (tape : Given) where
  -- The script was run, whole or up to a fault.
  pub record Ran (keys : Keys) (old new : S) (before after : Outside) (t u : Trace) (records : List (EpochRecord ℕ)) (err : Option RunErr) : Type 0 where
    pub p : Params
    pub script : Scripts
    pub found : store.Found
    pub start : store.Start
    pub opened : IsOpened store keys (disk old) before.input p script found start
    pub fits : SharesFit p script by.shares
    -- The store as it was once it was opened, with this sealer, before the first transaction was run: its cells are told where they were, and
    -- then no write waits; and no count of faults has fallen.
    pub between : S
    pub sealing : Sealing
    pub begun : IsReadAndOpened disk keys old between sealing
    pub durable : (disk old).tells → (disk between).tells × IsSynced (disk between)
    pub faults : (disk old).faults ≤ (disk between).faults
    -- what was found knows the store's gates
    pub knows : audit.knows_gates found (disk between)
    -- what the store saw of the opening, and what the watch is shown of it, behind which that is whole
    pub opening_seen : ArePhasesMade by.lanes (begin_phases store by.head p found start) (disk old).seen (disk between).seen
    pub midway : Trace
    pub opening_shown : Shows (beginning_notes store by.head p found start) t midway
    pub whole_midway : midway.broken ≡ false
    -- Where the store stood for an epoch, opening found that, and the opened store stands for it, whatever crashes. Where each image that a
    -- crash might have left stood too, each that a crash leaves stands as one did before, until the store is opened.
    pub opens : OpensStanding store disk keys p (disk old) (disk between)
    pub stood : (at : Standing) → (disk old).tells → Stands store keys p (disk old).cells at → IsOpenedAt store keys p at found (disk between)
    pub opening_left : (at : Standing) → (disk old).tells → Stands store keys p (disk old).cells at → AllStand store keys p (disk old) → LeavesOnly (disk old) (disk between) (StandsAsBefore store keys p (disk old))
    -- Each life that the cells stood for goes on with the opening's acts to where this was found; and behind the opening the script was
    -- served, which goes on from there.
    pub opens_life : (disk old).tells → life.begins keys p (disk old).cells found
    -- it came in stages, as the calls behind it did
    pub opens_staged : OpensStaged by.head store life disk keys p old between
    pub serving : ServedOver store life audit disk by keys p found sealing script tape between new before.output after.output midway u err
    pub told : serving.records ≡ records

  -- The run ended early, and nothing was run: no vault's call is in the store's life. Or the script was run.
  abbrev pub Went : Keys → S → S → Outside → Outside → Trace → Trace → List (EpochRecord ℕ) → Option RunErr → Type 0
  Went keys old new before after t u records None = Ran keys old new before after t u records None
  Went keys old new before after t u records (Some err) =
      ((records ≡ []) × EndsEarly store life audit by.head keys by.lanes by.shares (disk old) (disk new) t u disk old new before.input after.input err × ((disk new).tells → LivesOn disk keys old new [])) ⊎ Ran keys old new before after t u records (Some err)

  -- What it comes to before the fault's line is written.
  pub record RunOn (keys : Keys) (old new : S) (before after : Outside) (t u : Trace) (err : Option RunErr) : Type 0 where
    pub records : List (EpochRecord ℕ)
    -- all lines of so many of them stand
    pub whole : ℕ
    pub lines : LinesStand err records whole before.output after.output
    pub went : Went keys old new before after t u records err
    pub sound : StandsOn store disk keys old new
    pub clear : (disk new).tells → IsInClearBehind keys (disk old) (disk new) err

  -- What `run` has done with a store that was handed in.
  pub record RunDone (keys : Keys) (old new : S) (before after : Outside) (t u : Trace) (status : ℕ) : Type 0 where
    -- what cut it off, where something did
    pub err : Option RunErr
    pub status_is : status ≡ status_of (told_fault err)
    -- the records whose lines were to be written, and then the fault's
    pub records : List (EpochRecord ℕ)
    pub output_is : IsPrinted before.output after.output (report decimal records ++ fault_line (told_fault err))
    pub all_written : err ≡ None → after.output.bytes ≡ appended before.output.bytes (report decimal records)
    -- Before the fault's line all lines of so many records stand: of each one; but where the output failed, of all but the last one, at
    -- whose lines it did. Then nothing more is written.
    pub whole : ℕ
    pub written : Flow
    pub lines : LinesStand err records whole before.output written
    pub line : ErrTold written after.output err
    -- how far it came, with this in the output
    pub went : Went keys old new before (outside after.input written) t u records err
    pub sound : StandsOn store disk keys old new
    -- where the store tells its cells and calls, what stands in the clear
    pub clear : (disk new).tells → IsInClearBehind keys (disk old) (disk new) err
