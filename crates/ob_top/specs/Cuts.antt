-- A run that a crash cuts off within a call of the vault, and what an auditor knows behind it.
use Rattle.std.specs.Prelude.{◌≤◌, ℕ, Bool, List, [], ◌++◌, length, Option, take}
use Rattle.ob_base.specs.declared.params.Params.{Params}
use Rattle.ob_conduct.specs.Acts.{calls}
use Rattle.ob_recover.specs.Life.{LifeAct}
use Rattle.ob_schedule.specs.Follow.{Follow}
use Rattle.ob_schedule.specs.Schedule.{Fills}
use Rattle.ob_seal.specs.declared.keys.Keys.{Keys}
use Rattle.ob_serial.specs.Vaults.{VaultCall}
use Rattle.ob_store.specs.Disk.{Disk}
use Rattle.ob_store.specs.declared.watch.Note.{Note}
use Rattle.ob_vault.specs.Acts.{AreTapeWords}
use Rattle.ob_vault.specs.Hidden.{RingDrawsCut, RingHidden}
use Rattle.ob_vault.specs.KindShown.{steps_notes}
use Rattle.ob_vault.specs.RingKind.{ring_hidden, ring_kind, ring_public}
use Rattle.ob_vault.specs.RingLives.{ring_lives}
use Rattle.ob_vault.specs.Seen.{RingPublic, ring_notes}
use Rattle.ob_vault.specs.Shapes.{Shape, answered, refused, shape_of}
use Rattle.ob_vault.specs.Spans.{IsCutIn, span}
use Rattle.ob_vault.specs.Staged.{RingCallStaged}
use Rattle.ob_admitted.specs.Told.{IsCountIn}
use Rattle.ob_top.specs.Audited.{ring_audits}
use Rattle.ob_top.specs.Auditors.{AreNotesAudited, AuditorKnows, IsHeld}
use Rattle.ob_top.specs.Pasts.{PastLife}
use Rattle.ob_top.specs.Rows.{IsRowRun, TracedRun}
use Rattle.ob_top.specs.Runs.{Ran, beginning_notes}
use Rattle.ob_top.specs.Staged.{CallsAre}

module _ {S : Type 0} (disk : S → Disk) (keys : Keys) (p : Params) (past : PastLife) (known : Follow) (r : TracedRun S) (ran : Ran ring_kind ring_lives ring_audits disk r.by r.tape keys r.old r.new r.before r.after r.first r.last r.records r.err) where
  -- the notes of its opening, of these answered calls, and so many of the next one's row
  abbrev pub notes_up_to : (taken : List (Shape × Fills)) → (row : List Note) → (count : ℕ) → List Note
  notes_up_to taken row count = (beginning_notes ring_kind (r.by).head p ran.found ran.start ++ steps_notes ring_kind p (ring_public p ran.found) taken) ++ take count row

  -- A crash cuts the run off at a moment of a stage of this call, which fills its holes as it draws them, where so many of its notes were shown as may
  -- be in that stage. The auditor knows as much behind the notes up to there, of all images that are left, if the tape gave its generation's words.
  abbrev pub IsCallAudited : (done : List VaultCall) (taken : List (Shape × Fills)) → RingPublic → RingHidden → VaultCall → (words : List ℕ) → (began : S) → Type 0
  IsCallAudited done taken q h call words began = (stage : ℕ) (x : S × S) → IsCutIn disk keys (r.by).lanes p ran.found (disk ran.between) done taken q h call words began stage x → (fills : Fills) → RingDrawsCut p h call fills words
      → (count : ℕ) → count ≤ length (ring_notes p q (shape_of call) fills) → IsCountIn p q call fills stage count → AreTapeWords past.word_of (r.tape).generation words → AreNotesAudited keys p past known (notes_up_to taken (ring_notes p q (shape_of call) fills) count) (span disk x).may_leave

  -- a call that came in its stages is so in each of them
  abbrev pub IsCallStagedAudited : (done : List VaultCall) (taken : List (Shape × Fills)) → RingPublic → RingHidden → VaultCall → (words : List ℕ) → (answered : Bool) → (old new : S) → Type 0
  IsCallStagedAudited done taken q h call words answered old new = RingCallStaged disk keys (r.by).lanes p ran.found (disk ran.between) done taken q h call words answered old new × IsCallAudited done taken q h call words old

  -- and each call of the run
  abbrev pub AreCutsAudited : Type 0
  AreCutsAudited = CallsAre ring_kind p IsCallStagedAudited (refused (calls (ran.serving).is_served.served.evidence.acts)) (r.tape).words ((ran.serving).traced).behind r.new [] [] (ring_public p ran.found) (ring_hidden ran.found)
      (answered (calls (ran.serving).is_served.served.evidence.acts)) ((ran.serving).traced).steps ran.between

module _ {S : Type 0} (disk : S → Disk) where
  -- Whoever knows a life goes on so with a run that began at an image that was left, and that a crash cut off at any moment of any stage of any of its
  -- calls.
  abbrev pub CutsAreRead : Type 0
  CutsAreRead = (keys : Keys) (p : Params) (past : PastLife) (in_flight : Option LifeAct) (last : S) (known : Follow) → AuditorKnows keys p past in_flight (disk last).may_leave known
      → (r : TracedRun S) (one : IsRowRun disk keys p (disk last).may_leave r) → AreCutsAudited disk keys p past known r one.ran

  -- So does who knows it of the image alone at which the run began, whatever left that.
  abbrev pub CutsAreReadFrom : Type 0
  CutsAreReadFrom = (keys : Keys) (p : Params) (past : PastLife) (in_flight : Option LifeAct) (known : Follow) (r : TracedRun S) → AuditorKnows keys p past in_flight (IsHeld (disk r.old)) known
      → (one : IsRowRun disk keys p (IsHeld (disk r.old)) r) → AreCutsAudited disk keys p past known r one.ran

  -- And so the next run goes on from one of the images that a moment leaves: who knows the life of them all knows it of the one that its store holds.
  abbrev pub CutsLeadOn : Type 0
  CutsLeadOn = (keys : Keys) (p : Params) (past : PastLife) (in_flight : Option LifeAct) (x : S × S) (next : S) (known : Follow) → AuditorKnows keys p past in_flight (span disk x).may_leave known → (span disk x).may_leave (disk next).cells
      → AuditorKnows keys p past in_flight (IsHeld (disk next)) known
