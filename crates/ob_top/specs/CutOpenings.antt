-- A run that a crash cuts off within its opening, and what an auditor knows behind it.
use Rattle.std.specs.Prelude.{◌⊎◌, ◌≡◌, ℕ, List, ◌∷◌, Option, take}
use Rattle.std.proofs.Common.{inl, inr}
use Rattle.ob_base.specs.declared.params.Params.{Params}
use Rattle.ob_recover.specs.Finds.{IsFoundInRing}
use Rattle.ob_recover.specs.Life.{LifeAct}
use Rattle.ob_recover.specs.declared.found.Found.{Found}
use Rattle.ob_schedule.specs.Follow.{Follow}
use Rattle.ob_schedule.specs.Schedule.{head_notes}
use Rattle.ob_seal.specs.declared.keys.Keys.{Keys}
use Rattle.ob_stand.specs.Stands.{RingStanding, Stands}
use Rattle.ob_store.specs.Disk.{Disk, Image}
use Rattle.ob_store.specs.declared.watch.Note.{Note}
use Rattle.ob_twin.specs.Stages.{AreSpans}
use Rattle.ob_vault.specs.RingLaws.{ReadsHead}
use Rattle.ob_vault.specs.Spans.{span}
use Rattle.ob_vault.specs.Stages.{HowFar}
use Rattle.ob_admitted.specs.OpeningMoments.{AreReadsShown, IsShownIn}
use Rattle.ob_top.specs.AuditedStops.{IsHeldOrLeft, IsSurelyLeft}
use Rattle.ob_top.specs.Auditors.{AreNotesAudited, AuditorKnows}
use Rattle.ob_top.specs.Parts.{head_cells}
use Rattle.ob_top.specs.Pasts.{PastLife}
use Rattle.ob_top.specs.Refusals.{BrokeInOpening, CameToHead, StoppedInOpening}
use Rattle.ob_top.specs.Rows.{IsRowRun, TracedRun}

module _ {S : Type 0} (disk : S → Disk) (keys : Keys) (p : Params) (past : PastLife) (known : Follow) where
  -- An opening over that store is cut off at a moment of this stretch of time, once these notes were shown. The auditor knows as much behind them, of
  -- each image that is surely left.
  abbrev pub IsMomentAudited : (old : S) → S × S → (notes : List Note) → Type 0
  IsMomentAudited old x notes = AreNotesAudited keys p past known notes (IsSurelyLeft keys p (disk old) (span disk x) notes)

  -- so it is up to that store, where the first of the reads were shown of an opening of this durable epoch
  abbrev pub AreReadsAudited : (epoch : ℕ) → (old end : S) → Type 0
  AreReadsAudited epoch old end = (notes : List Note) → AreReadsShown p epoch notes → IsMomentAudited old (old, end) notes

  -- It found this, and was sure of that store behind its first sync; so it is at each moment of each of its stages, of all notes that may be shown in
  -- that: while it reads, the head first; with the sync; while its generation begins; and while batches are shown again.
  pub record AreStagesAudited (old new : S) : Type 0 where
    pub found : Found
    pub found_in : IsFoundInRing keys p (disk old).cells found
    pub synced : S
    pub ends : List S
    pub cut : AreSpans (λ stage x. (notes : List Note) → IsShownIn p found stage notes → IsMomentAudited old x notes) 0 old (synced ∷ synced ∷ ends) new

  -- it came to its reads at most; or so it is in stages
  abbrev pub IsOpeningAudited : (q : Params) (epoch : ℕ) (old read new : S) → HowFar disk keys q read new → Type 0
  IsOpeningAudited q epoch old read new (inl still) = AreReadsAudited epoch old new
  IsOpeningAudited q epoch old read new (inr since) = AreStagesAudited old new

module _ {S : Type 0} (disk : S → Disk) where
  -- Whoever knows a life at a store that stands for something goes on so with an opening of that which a crash cut off at any moment, however far it
  -- came behind the head's read, whether it would have been answered or refused.
  abbrev pub CutOpeningsAreRead : Type 0
  CutOpeningsAreRead = (keys : Keys) (p : Params) (past : PastLife) (in_flight : Option LifeAct) (known : Follow) (old read new : S) (s : RingStanding) → AuditorKnows keys p past in_flight (IsHeldOrLeft (disk old)) known
      → (disk old).tells → Stands keys p s (disk old).cells → ReadsHead (disk old) (disk read) → (how : HowFar disk keys p read new) → IsOpeningAudited disk keys p past known p s.epoch old read new how

  -- So it is of the opening of a run that served, from the store that it was handed to the one that was opened;
  abbrev pub OpeningsOfRunsAreRead : Type 0
  OpeningsOfRunsAreRead = (keys : Keys) (p : Params) (past : PastLife) (in_flight : Option LifeAct) (known : Follow) (r : TracedRun S) → AuditorKnows keys p past in_flight (IsHeldOrLeft (disk r.old)) known
      → (one : IsRowRun disk keys p (IsHeldOrLeft (disk r.old)) r) → AreStagesAudited disk keys p past known r.old (one.ran).between

  -- of one that was refused in its opening, however far it came;
  abbrev pub RefusedOpeningsAreRead : Type 0
  RefusedOpeningsAreRead = (keys : Keys) (p : Params) (past : PastLife) (in_flight : Option LifeAct) (known : Follow) (r : TracedRun S) → AuditorKnows keys p past in_flight (IsHeldOrLeft (disk r.old)) known
      → (r.by).head ≡ head_cells → (stopped : StoppedInOpening disk keys p r) → IsOpeningAudited disk keys p past known (stopped.went).p (stopped.at).epoch r.old ((stopped.went).stops).read r.new ((stopped.went).stops).far

  -- of one whose watch broke in its opening;
  abbrev pub BrokenOpeningsAreRead : Type 0
  BrokenOpeningsAreRead = (keys : Keys) (p : Params) (past : PastLife) (in_flight : Option LifeAct) (known : Follow) (r : TracedRun S) → AuditorKnows keys p past in_flight (IsHeldOrLeft (disk r.old)) known
      → (r.by).head ≡ head_cells → BrokeInOpening disk keys p r → AreStagesAudited disk keys p past known r.old r.new

  -- and of one that came to the head at most.
  abbrev pub CutHeadsAreRead : Type 0
  CutHeadsAreRead = (keys : Keys) (p : Params) (past : PastLife) (in_flight : Option LifeAct) (known : Follow) (r : TracedRun S) → AuditorKnows keys p past in_flight (IsHeldOrLeft (disk r.old)) known
      → (r.by).head ≡ head_cells → CameToHead disk keys p r → (count : ℕ) → IsMomentAudited disk keys p past known r.old (r.old, r.new) (take count head_notes)

  -- So the next run goes on from such an image: who knows the life of them all knows it of the one that its store holds, and of those that a crash
  -- would then leave of it.
  abbrev pub StopsLeadOn : Type 0
  StopsLeadOn = (keys : Keys) (p : Params) (past : PastLife) (in_flight : Option LifeAct) (old : S) (x : S × S) (notes : List Note) (next : S) (known : Follow) → AuditorKnows keys p past in_flight (IsSurelyLeft keys p (disk old) (span disk x) notes) known
      → ((c : Image) → IsHeldOrLeft (disk next) c → IsSurelyLeft keys p (disk old) (span disk x) notes c) → AuditorKnows keys p past in_flight (IsHeldOrLeft (disk next)) known
