-- The calls of a ring vault, as acts of a life of its store.
use Rattle.std.specs.Prelude.{◌≡◌, ◌⊎◌, ℕ, suc, ◌<◌, Bool, true, false, List, [], ◌∷◌, ◌++◌, map, length, slice_index, Option, None, Some, Err}
use Rattle.ob_base.specs.declared.fault.Fault.{Fault}
use Rattle.ob_base.specs.declared.params.Params.{Params}
use Rattle.ob_base.specs.declared.value.Write.{Write}
use Rattle.ob_fresh.specs.Drawn.{DrawInTurn, WordsKept}
use Rattle.ob_end.specs.Moments.{IsEndMadeButSet}
use Rattle.ob_fetch.specs.declared.run.Run.{Run}
use Rattle.ob_fetch.specs.Fetches.{RunIsAt, next_batch}
use Rattle.ob_recover.specs.Calls.{CallLaw, Ended as EndOf, Fetched, LifeCall, acts_of, repeated}
use Rattle.ob_recover.specs.Life.{Append, IsLife, LifeAct, LifeBatch, LifeState, Open, ShowLifts, WordId, life_step, reached}
use Rattle.ob_log.specs.Appends.{append_notes, body_notes, gate_notes}
use Rattle.ob_recover.specs.Repeats.{content_of_ring}
use Rattle.ob_ring.specs.Writing.{entry_of}
use Rattle.ob_vault.specs.SealActs.{IsRingVault}
pub use Rattle.ob_vault.specs.Stages.{AreBatchesSmall, IsBatchSmall}
use Rattle.ob_vault.specs.Stages.{AreStages, IsStage, stages_of}
use Rattle.ob_recover.specs.Known.{fills_of, fills_with_lifts, public_of_kept, slot_kept}
use Rattle.ob_recover.specs.Lives.{IsLifeAt, LifeShowsFills, life_batch, word_kept}
use Rattle.ob_recover.specs.Telling.{IsRowShown}
use Rattle.ob_vault.specs.RingVaults.{EndCalled, HasPlanned, RingCalled, Running, record_of_fetch, run_over, write_from, writes_of_end}
use Rattle.ob_schedule.specs.Phases.{batch_phases, end_phases}
use Rattle.ob_schedule.specs.Schedule.{batch_notes, end_notes}
use Rattle.ob_seal.specs.declared.keys.Keys.{Keys}
use Rattle.ob_serial.specs.VaultKinds.{AllCalled, Kind}
use Rattle.ob_serial.specs.Vaults.{End, Ended, Fetch, Values, VaultAnswer, VaultCall}
use Rattle.ob_serial.specs.declared.vault.EndErr.TheVariants as end
use Rattle.ob_stand.specs.Stands.{RingStanding}
use Rattle.ob_store.specs.Calls.{Notes}
use Rattle.ob_store.specs.Disk.{Disk, Image}
use Rattle.ob_store.specs.Images.{LeavesOnly}
use Rattle.ob_store.specs.Told.{IsCut, events_of}
use Rattle.ob_store.specs.declared.event.Event.{Event}
use Rattle.ob_store.specs.declared.watch.Note.{Note}
use Rattle.ob_tables.specs.declared.entry.Entry.{Entry}
use Rattle.ob_opening.specs.OpeningActs.{IsLeftAt, StandsInLife}
use Rattle.ob_opening.specs.Openings.{IsOpenedAt}
use Rattle.ob_opening.specs.declared.opening.Opening.{Opening}

-- ---- a run in a life

-- the tape gave the words of this generation, as far as they were drawn
abbrev pub AreTapeWords : (WordId → ℕ) → (generation : ℕ) → List ℕ → Type 0
AreTapeWords word_of generation drawn = (i : ℕ) → i < length drawn → word_of (record { generation = generation; place = i }) ≡ slice_index drawn i

-- A run is where the life is: the store stands for an epoch that the run is at, of the life's number and generation, with its content and
-- its log; each batch of that was shown in this attempt; and so many words of the generation were drawn.
pub record RunsInLife (word_of : WordId → ℕ) (s : LifeState) (run : Run) (disk : Disk) : Type 0 where
  pub standing : RingStanding
  pub at : RunIsAt run standing disk
  pub epoch : standing.epoch ≡ s.epoch
  pub generation : standing.generation ≡ s.generation
  pub life : IsLifeAt run.params word_of standing.content standing.records s
  pub small : AreBatchesSmall s.log
  pub drawn : s.drawn ≡ run.drawn
  pub begun : s.begun ≡ length s.log

-- ---- a call

-- each write with the id of its place's word, a del with none
abbrev pub id_write : Write × Entry → ℕ × Option WordId
id_write w = ((w.0).key, word_kept (entry_of (w.0).value w.1))

-- it wasn't refused
abbrev pub is_answered : VaultAnswer → Bool
is_answered (Values out) = true
is_answered Ended = true
is_answered _ = false

module _ {S : Type 0} (disk : S → Disk) (word_of : WordId → ℕ) (old new : Running S) (notes : List Note) where
  -- a fetch is its record, with its words' ids; an end is its writes, with theirs, and the slots that it leaves
  abbrev pub life_call : VaultCall → LifeCall
  life_call (Fetch asks) = Fetched (life_batch (record_of_fetch disk old new notes asks))
  life_call (End writes) = EndOf (map id_write (writes_of_end disk old new notes (map write_from writes))) (new.run).drawn (slot_kept (content_of_ring (new.run).ring))

  -- All that it showed with a hole is shown by the acts that were made: all of a fetch's, or an end's lifts. Or none was made of a fetch, and no
  -- more was shown than the first of its record's own notes.
  abbrev pub IsShownBy : VaultCall → (made : List LifeAct) → Type 0
  IsShownBy (Fetch asks) made = (made ≡ acts_of (life_call (Fetch asks)))
      ⊎ ((made ≡ []) × (done : List Note) × IsCut (append_notes (old.run).params (suc (old.run).epoch) (next_batch old.run)) done notes)
  IsShownBy (End writes) made = (made ≡ acts_of (life_call (End writes))) ⊎ (made ≡ ShowLifts ∷ [])

  -- How far a call came that was refused, by its notes. Of a fetch they are of the record's body alone, and it isn't made; or all of the record's
  -- but the last sync; or all of these come first, and it is made. An end was refused before its register's gate was written, and isn't in
  -- flight; or it is unsure.
  abbrev pub IsMadeAsTold : VaultCall → (made : List LifeAct) → (in_flight : Option LifeAct) → Type 0
  IsMadeAsTold (Fetch asks) made in_flight =
      (((made ≡ []) × (in_flight ≡ None) × ((done : List Note) × IsCut (body_notes (old.run).params (suc (old.run).epoch) (next_batch old.run)) done notes))
      ⊎ ((made ≡ []) × (notes ≡ gate_notes (old.run).params (suc (old.run).epoch) (next_batch old.run))))
      ⊎ ((made ≡ acts_of (life_call (Fetch asks))) × ((more : List Note) × (notes ≡ append_notes (old.run).params (suc (old.run).epoch) (next_batch old.run) ++ more)))
  IsMadeAsTold (End writes) made in_flight =
      (made ≡ ShowLifts ∷ []) × (((in_flight ≡ None) × ((f : Fault) × EndCalled disk old new notes (map write_from writes) (Err (end.Before f)))) ⊎ ((f : Fault) × EndCalled disk old new notes (map write_from writes) (Err (end.Unsure f))))

  -- What the store was called for by the end of the first stage, where the other one follows: a fetch's record, and no read of its batch; or all of an end,
  -- its lifts too, but for the set of the epoch's register.
  abbrev pub IsCalledFor : VaultCall → Option (List Event) → Type 0
  IsCalledFor (Fetch asks) seen = Notes (events_of (append_notes (old.run).params (suc (old.run).epoch) (next_batch old.run))) (disk old.store).seen seen
  IsCalledFor (End writes) seen = IsEndMadeButSet old.lanes old.run (disk old.store).seen seen

  -- All stages of a call that was answered, else the first ones. Where there is none nothing was done.
  pub record IsStaged (s : LifeState) (call : VaultCall) (answered : Bool) : Type 0 where
    pub ends : List S
    pub stages : AreStages (IsStage disk ((old.run).sealer).keys (old.run).params word_of s) (λ stage end. IsCalledFor call (disk end).seen) 0 (stages_of None (life_call call)) old.store ends new.store
    pub whole : answered ≡ true → length ends ≡ 2
    pub idle : ends ≡ [] → LeavesOnly (disk old.store) (disk new.store) (IsLeftAt ((old.run).sealer).keys (old.run).params word_of s None)

  -- the image is one that an opening can go on from: the first acts of the call were made, and the next may be in flight
  pub record IsLeftWithin (s : LifeState) (call : VaultCall) (image : Image) : Type 0 where
    pub made : List LifeAct
    pub rest : List LifeAct
    pub pending : Option LifeAct
    pub acts : acts_of (life_call call) ≡ made ++ rest
    pub is_life : IsLife (old.run).params word_of s made
    pub next : (pending ≡ None) ⊎ ((a : LifeAct) × (more : List LifeAct) × (pending ≡ Some a) × (rest ≡ a ∷ more))
    pub small : AreBatchesSmall (reached (old.run).params word_of s made).log × ((b : LifeBatch) → pending ≡ Some (Append b) → IsBatchSmall b)
    pub left : IsLeftAt ((old.run).sealer).keys (old.run).params word_of (reached (old.run).params word_of s made) pending image

  -- It makes the acts of its call, where it was answered; else the first of them, and the next may be in flight: where that is a record,
  -- no more was shown than its own writes, and its gate's. What it showed these acts show. An opening goes on from what it leaves, and from what a crash at any
  -- moment of it leaves, stage by stage; and behind a call that was answered the run is where the life is.
  pub record IsCallInLife (s : LifeState) (call : VaultCall) (answered : Bool) : Type 0 where
    pub made : List LifeAct
    pub in_flight : Option LifeAct
    pub law : CallLaw (old.run).params word_of (StandsInLife ((old.run).sealer).keys (old.run).params word_of) s None (life_call call) answered made in_flight (disk old.store).may_leave (disk new.store).may_leave
    pub shown : (b : LifeBatch) → in_flight ≡ Some (Append b) → (done : List Note) × IsCut (append_notes (old.run).params (suc (old.run).epoch) (next_batch old.run)) done notes
    pub shows : IsShownBy call made
    pub told : answered ≡ false → IsMadeAsTold call made in_flight
    -- their words are drawn in turn
    pub turn : (k : WordsKept) → k.drawn ≡ s.drawn → DrawInTurn (old.run).params word_of s k made in_flight
    pub left : (c : Image) → (disk new.store).may_leave c → IsLeftAt ((old.run).sealer).keys (old.run).params word_of (reached (old.run).params word_of s made) in_flight c
    pub staged : IsStaged s call answered
    pub small : AreBatchesSmall (reached (old.run).params word_of s made).log × ((b : LifeBatch) → in_flight ≡ Some (Append b) → IsBatchSmall b)
    pub onward : answered ≡ true → RunsInLife word_of (reached (old.run).params word_of s made) new.run (disk new.store)

-- ---- the laws

-- Each call of a run that is where a life is, whatever it answers, is one of that life.
abbrev pub RingCallsLive : {S : Type 0} → (S → Disk) → Type 0
RingCallsLive {S} disk = (word_of : WordId → ℕ) (s : LifeState) (old new : Running S) (notes : List Note) (call : VaultCall) (answer : VaultAnswer)
    → RunsInLife word_of s old.run (disk old.store) → AreTapeWords word_of ((old.run).sealer).generation new.drawn → RingCalled disk old new notes call answer → IsCallInLife disk word_of old new notes s call (is_answered answer)

-- So is each moment of it: the first acts were made, and the next may be in flight.
abbrev pub StagesAreMoments : {S : Type 0} → (S → Disk) → Type 0
StagesAreMoments {S} disk = (word_of : WordId → ℕ) (s : LifeState) (old new : Running S) (notes : List Note) (call : VaultCall) (answered : Bool)
    → RunsInLife word_of s old.run (disk old.store) → IsStaged disk word_of old new notes s call answered → LeavesOnly (disk old.store) (disk new.store) (IsLeftWithin disk word_of old new notes s call)

-- Behind an opening of what stood, which begins a generation and repeats each batch of the log, the run that is made of it is where the
-- life is.
abbrev pub OpenedRunsLive : {S : Type 0} → (L : Type 0) → (S → Disk) → Type 0
OpenedRunsLive {S} L disk = (keys : Keys) (p : Params) (word_of : WordId → ℕ) (s : LifeState) (cells : Image) (here : StandsInLife keys p word_of s cells) (store : S) (o : Opening L)
    → AreBatchesSmall s.log → (disk store).tells → IsOpenedAt keys p here.standing (disk store) o
    → RunsInLife word_of (reached p word_of s (Open (suc (here.standing).generation) ∷ repeated (length s.log))) (run_over o) (disk store)

-- ---- chains

-- each was answered
abbrev pub AreAllAnswered : List (VaultCall × VaultAnswer) → Type 0
AreAllAnswered [] = Unit {0}
AreAllAnswered (step ∷ steps) = (is_answered step.1 ≡ true) × AreAllAnswered steps

-- These acts lead on, and the run is where the life then is.
pub record LeadsInLife (p : Params) (word_of : WordId → ℕ) (s : LifeState) (run : Run) (disk : Disk) : Type 0 where
  pub acts : List LifeAct
  pub is_life : IsLife p word_of s acts
  pub runs : RunsInLife word_of (reached p word_of s acts) run disk

-- A chain of calls of a ring vault, each of which was answered, is a life's, under the words that the tape gave.
abbrev pub RingChainsInLife : {V S : Type 0} → Kind V → (S → Disk) → Type 0
RingChainsInLife {V} {S} kind disk = (runs : V → Running S) → IsRingVault kind disk runs → (word_of : WordId → ℕ) (s : LifeState) (first last : V) (steps : List (VaultCall × VaultAnswer))
    → RunsInLife word_of s (runs first).run (disk (runs first).store) → AreTapeWords word_of (((runs first).run).sealer).generation (runs last).drawn → AllCalled kind first steps last → AreAllAnswered steps
    → LeadsInLife ((runs first).run).params word_of s (runs last).run (disk (runs last).store)

-- ---- what is shown

-- What an answered fetch shows is the schedule's batch, its reads dealt to the lanes, filled by what the life shows once it has the record:
-- each label is the low bits of the word that the life shows there, and each slot is the life's.
abbrev pub FetchesShowLives : {S : Type 0} → (S → Disk) → Type 0
FetchesShowLives {S} disk = (word_of : WordId → ℕ) (s : LifeState) (old new : Running S) (notes : List Note) (asks : List (Option ℕ)) (out : List (Option (List ℕ))) (runs : RunsInLife word_of s old.run (disk old.store))
    → AreTapeWords word_of ((old.run).sealer).generation new.drawn → RingCalled disk old new notes (Fetch asks) (Values out) → HasPlanned old.run (runs.standing).content (runs.standing).records
    → let p = (old.run).params in let c = (runs.standing).content in let rs = (runs.standing).records in let r = record_of_fetch disk old new notes asks in
    IsRowShown old.lanes (batch_phases p (public_of_kept p c rs (old.run).epoch (old.run).gates) (fills_of p c (rs ++ r ∷ [])) (length rs))
    (batch_notes p (public_of_kept p c rs (old.run).epoch (old.run).gates) (fills_of p c (rs ++ r ∷ [])) (length rs)) notes (disk old.store).seen (disk new.store).seen
    × LifeShowsFills p word_of c (rs ++ r ∷ []) (life_step p word_of s (Append (life_batch r)))

-- And an answered end shows the schedule's, its lifts filled by the slots that the life shows in them.
abbrev pub EndsShowLives : {S : Type 0} → (S → Disk) → Type 0
EndsShowLives {S} disk = (word_of : WordId → ℕ) (s : LifeState) (old new : Running S) (notes : List Note) (writes : List (ℕ × Option (List ℕ))) (runs : RunsInLife word_of s old.run (disk old.store))
    → RingCalled disk old new notes (End writes) Ended → HasPlanned old.run (runs.standing).content (runs.standing).records
    → let p = (old.run).params in let c = (runs.standing).content in let rs = (runs.standing).records in
    IsRowShown old.lanes (end_phases p (public_of_kept p c rs (old.run).epoch (old.run).gates) (fills_with_lifts p c rs))
    (end_notes p (public_of_kept p c rs (old.run).epoch (old.run).gates) (fills_with_lifts p c rs)) notes (disk old.store).seen (disk new.store).seen
    × LifeShowsFills p word_of c rs s
