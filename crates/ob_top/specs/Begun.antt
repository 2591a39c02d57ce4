-- What a run over a ring store is begun with: what is told from its head's read on, and behind that.
use Rattle.std.specs.Prelude.{ℕ, ◌≡◌, ◌≤◌, false, List, [], ◌∷◌, length}
use Rattle.ob_base.specs.declared.params.Params.{Params}
use Rattle.ob_io.specs.Streams.{Flow}
use Rattle.ob_vault.specs.Gated.{AreGatesKnown}
use Rattle.ob_vault.specs.Kinds.{AllStand, IsOpenedAt, Stands, StandsAsBefore}
use Rattle.ob_recover.specs.Fits.{IsPlannerFit}
use Rattle.ob_recover.specs.Telling.{ArePhasesMade}
use Rattle.ob_recover.specs.declared.found.Found.{Found}
use Rattle.ob_vault.specs.RingKind.{GoesOnFrom, RingFound, ring_kind}
use Rattle.ob_vault.specs.RingVaults.{HasPlanned, run_over}
use Rattle.ob_script.specs.Script.{Scripts}
use Rattle.ob_seal.specs.Sealing.{Sealing}
use Rattle.ob_seal.specs.declared.keys.Keys.{Keys}
use Rattle.ob_serial.specs.Vaults.{Standing}
use Rattle.ob_shares.specs.declared.shares.Shares.{Shares}
use Rattle.ob_conduct.specs.declared.run_err.RunErr.{RunErr}
use Rattle.ob_conduct.specs.declared.run_err.RunErr.TheVariants as failed
use Rattle.ob_store.specs.Calls.{GoesOn, Keeps, Notes}
use Rattle.ob_store.specs.Disk.{Disk}
use Rattle.ob_store.specs.Images.{IsSynced, LeavesOnly, Passes, Same}
use Rattle.ob_store.specs.declared.event.Event.TheVariants as event
use Rattle.ob_store.specs.declared.watch.Note.TheVariants as note
use Rattle.ob_twin.specs.Opening.{GatesAre}
use Rattle.ob_twin.specs.declared.gates.Gates.{Gates}
use Rattle.ob_opening.specs.declared.opening.Opening.{Opening}
use Rattle.ob_store.specs.Lines.{Shows, Trace}
use Rattle.ob_vault.specs.RingLives.{ring_lives}
use Rattle.ob_top.specs.Audited.{ring_audits}
use Rattle.ob_top.specs.Runs.{BreaksAtHead, EndsEarly, IsReadAndOpened, LivesUnserved, ShownBehindHead, StopsAtHead}
use Rattle.ob_top.specs.Staged.{OpensInStages}
use Rattle.ob_top.specs.Parts.{IsOpened, begin_phases, head_cells}

-- as many lanes as a run may have
abbrev pub AreFewLanes : ℕ → Type 0
AreFewLanes most = (1 ≤ most) × (most ≤ 16)

-- This was found; the head's read and the opening were seen, by so many lanes, and shown to the watch, which was whole between them; and where
-- the store stood it stands on.
pub record IsRunBegun (head_is : List ℕ) (keys : Keys) (most : ℕ) (p : Params) (script : Scripts) (old new : Disk) (t u : Trace) (before : Flow) (f : RingFound) : Type 0 where
  pub start : Gates
  pub opened : IsOpened ring_kind keys old before p script f start
  pub seen : ArePhasesMade most (begin_phases ring_kind head_is p f start) old.seen new.seen
  pub shown : ShownBehindHead head_is (ring_kind.open_notes p f start) t u
  pub stood : (at : Standing) → old.tells → Stands ring_kind keys p old.cells at → IsOpenedAt ring_kind keys p at f new

-- The run of an opening goes on from this, with a planner that has shown its batches.
pub record RunsOnBegun {L : Type 0} (keys : Keys) (p : Params) (o : Opening L) (f : RingFound) : Type 0 where
  pub run : f.run ≡ run_over o
  pub found : Found
  pub goes_on : GoesOnFrom keys p found f
  pub planned : HasPlanned f.run f.content f.records

-- The head was read, which is that of a store with these parameters, and nothing else was done. That was shown to the watch, which is whole behind it.
pub record HasReadHead (keys : Keys) (p : Params) (old new : Disk) (t u : Trace) : Type 0 where
  pub goes : GoesOn old new
  pub head : old.tells → ring_kind.is_head keys p (old.cells 0)
  pub keeps : Keeps old new
  -- a crash leaves what it might have left before
  pub passes : Passes Same old new
  pub seen : Notes (event.Read 0 ∷ []) old.seen new.seen
  pub shown : Shows (note.Read 0 ∷ []) t u
  pub whole : u.broken ≡ false

-- Nothing was run: the head was refused, or the watch broke at its read, and that is all that was done.
abbrev pub EndsAtHead : Keys → (most : ℕ) → Shares → Disk → Disk → Trace → Trace → Flow → Flow → RunErr → Type 0
EndsAtHead keys most shares old new t u before after (failed.Fault fault) = StopsAtHead ring_kind ring_lives ring_audits head_cells keys most shares old new t u before after fault
EndsAtHead keys most shares old new t u before after failed.Unwatched = BreaksAtHead ring_kind ring_lives ring_audits head_cells keys most shares old new t u before after

-- What is told from the read of the head on, whatever the store and the watch were before that; and what is told behind it.
abbrev pub FromHeadAndBehind : {S : Type 0} → (S → Disk) → Keys → Params → S → Trace → (List ℕ → S → Trace → Type 0) → Type 0
FromHeadAndBehind {S} disk keys p old t Told = ((first : S) (before : Trace) → HasReadHead keys p (disk first) (disk old) before t → Told head_cells first before) × Told [] old t

-- Of a store whose head was read first, all that was found is begun with: from there on it was opened in stages, with this sealer, and what it
-- stood for it stands for, whatever crashes.
pub record BegunBehindHead {S : Type 0} (disk : S → Disk) (head_is : List ℕ) (keys : Keys) (most : ℕ) (p : Params) (script : Scripts) (sealing : Sealing) (old new : S) (t u : Trace) (before : Flow) (f : RingFound) : Type 0 where
  pub is_begun : IsRunBegun head_is keys most p script (disk old) (disk new) t u before f
  pub durable : (disk old).tells → (disk new).tells × IsSynced (disk new)
  -- what was found knows the gates
  pub knows : AreGatesKnown f.run (disk new)
  pub left : (at : Standing) → (disk old).tells → Stands ring_kind keys p (disk old).cells at → AllStand ring_kind keys p (disk old) → LeavesOnly (disk old) (disk new) (StandsAsBefore ring_kind keys p (disk old))
  pub since : OpensInStages head_is ring_kind ring_lives disk keys p old new
  pub opens : IsReadAndOpened disk keys old new sealing

-- Nothing is begun with, for this cause, and no vault's call is in the store's life.
pub record NotBegun {S : Type 0} (disk : S → Disk) (head_is : List ℕ) (keys : Keys) (most : ℕ) (shares : Shares) (old new : S) (t u : Trace) (before after : Flow) (err : RunErr) : Type 0 where
  pub early : EndsEarly ring_kind ring_lives ring_audits head_is keys most shares (disk old) (disk new) t u disk old new before after err
  pub lives : (disk new).tells → LivesUnserved disk keys old new

-- A vault with so many lanes may be made of the opening, over the store and the tape as they are.
pub record MayServe {L : Type 0} (most : ℕ) (p : Params) (disk : Disk) (present : ℕ) (drawn : List ℕ) (o : Opening L) : Type 0 where
  pub params : o.params ≡ p
  pub planner : (o.ring).p ≡ o.params
  pub few : o.left ≤ (o.params).batches
  pub fit : IsPlannerFit o.ring
  pub present_is : present ≡ (o.sealer).generation
  pub none_drawn : length drawn ≡ 0
  pub lanes : (o.crew).lanes ≡ most
  pub gates : disk.tells → GatesAre (o.gates).epoch 5 disk.cells
