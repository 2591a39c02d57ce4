-- What an auditor knows of a store's life, who has read what its format and its runs showed; and a run behind that.
use Rattle.std.specs.Prelude.{◌≡◌, ℕ, Bool, false, cond, List, [], ◌∷◌, ◌++◌, Option, None, Some}
use Rattle.std.specs.List.{flat_map}
use Rattle.ob_audit.specs.Traces.{Admitted, lines_in}
use Rattle.ob_base.specs.Tree.{width}
use Rattle.ob_base.specs.declared.params.Params.{Params}
use Rattle.ob_fresh.specs.PublicLives.{AreEndsShown}
use Rattle.ob_opening.specs.OpeningActs.{AreGatesIn, IsLeftAt, StandsInLife}
use Rattle.ob_recover.specs.Calls.{Finds}
use Rattle.ob_recover.specs.Known.{gates_open}
use Rattle.ob_recover.specs.Life.{IsLife, LifeAct, WordId, formatted_life, life_slots, planned_labels}
use Rattle.ob_schedule.specs.Follow.{Follow, started}
use Rattle.ob_schedule.specs.Schedule.{format_notes}
use Rattle.ob_schedule.specs.declared.line.Line.{Line}
use Rattle.ob_schedule.specs.declared.line.Line.TheVariants as L
use Rattle.ob_seal.specs.declared.keys.Keys.{Keys}
use Rattle.ob_store.specs.Disk.{Disk, Image}
use Rattle.ob_store.specs.Lines.{Shows, lines_of, open_line}
use Rattle.ob_store.specs.declared.watch.Note.{Note}
use Rattle.ob_tables.specs.Rank.{IsRanking}
use Rattle.ob_twin.specs.declared.gates.Gates.{Gates}
use Rattle.ob_vault.specs.Acts.{AreBatchesSmall, AreTapeWords}
use Rattle.ob_vault.specs.RingKind.{ring_kind}
use Rattle.ob_vault.specs.RingLives.{ring_lives}
use Rattle.ob_histories.specs.Fills.{AllFills, AreAllFills}
use Rattle.ob_histories.specs.Histories.{AreRunsBehind, MayFind, lines_of_notes, run_lines}
use Rattle.ob_histories.specs.Laws.{TakesLines}
use Rattle.ob_histories.specs.Runs.{HistoryRun, is_settled}
use Rattle.ob_admitted.specs.Fills.{FillsAll}
use Rattle.ob_admitted.specs.Publics.{AreRecordsWhole}
use Rattle.ob_admitted.specs.Wholes.{found_of_life}
use Rattle.ob_top.specs.Again.{new_past}
use Rattle.ob_top.specs.Audited.{ring_audits}
use Rattle.ob_top.specs.Formats.{IsFormatted}
use Rattle.ob_top.specs.Outside.{Given}
use Rattle.ob_top.specs.Pasts.{PastLife, life_of, with_acts}
use Rattle.ob_top.specs.Rows.{IsRowRun, TracedRun}

-- The past is a life, which was left in these images, perhaps with an act in flight; and that is as calls make acts: records are whole, and an epoch
-- ends behind all its batches.
pub record IsLifeLeft (keys : Keys) (p : Params) (past : PastLife) (in_flight : Option LifeAct) (may_leave : Image → Type 0) : Type 0 where
  pub ranked : (u : ℕ) → IsRanking (width p) (past.slot u)
  pub is_life : IsLife p past.word_of (formatted_life past.slot) past.acts
  pub left : (c : Image) → may_leave c → IsLeftAt keys p past.word_of (life_of p past) in_flight c
  pub small : (found : List LifeAct) → Finds in_flight found → AreBatchesSmall (life_of p (with_acts past found)).log
  pub whole : (found : List LifeAct) → Finds in_flight found → IsLife p past.word_of (formatted_life past.slot) (past.acts ++ found) → AreRecordsWhole p (past.acts ++ found) × AreEndsShown p past.word_of (formatted_life past.slot) (past.acts ++ found)

-- all that it has shown, and the labels of the epoch that runs, are these fills
abbrev pub FillsPast : Params → PastLife → AllFills → Type 0
FillsPast p past fills = FillsAll p past.word_of fills (planned_labels p past.word_of (life_of p past)) (life_slots p past.word_of (formatted_life past.slot) past.acts)

-- A run may begin where it leads, with these gates: an image that may have been left stands for it, and has them.
pub record MayBegin (keys : Keys) (p : Params) (past : PastLife) (may_leave : Image → Type 0) (gates : ℕ → Bool) : Type 0 where
  pub has : Gates
  pub gates_are : gates ≡ gates_open has
  pub image : Image
  pub may : may_leave image
  pub stands : StandsInLife keys p past.word_of (life_of p past) image
  pub in_image : AreGatesIn has image

-- of these runs, behind another one or none, the last that showed its first sync
abbrev pub last_settled : Params → AllFills → Option HistoryRun → List HistoryRun → Option HistoryRun
last_settled p f last [] = last
last_settled p f last (run ∷ runs) = last_settled p f (cond (is_settled p f run.mirrored run.found run.steps run.shown) (Some run) last) runs

-- Behind a format's first line these are a public history's with these fills.
pub record AreHistoryOf (p : Params) (f : AllFills) (lines : List Line) : Type 0 where
  pub runs : List HistoryRun
  pub behind : AreRunsBehind p f None runs
  pub are : lines ≡ lines_of_notes (format_notes p) ++ flat_map (run_lines p f) runs

-- Such runs leave what a run finds that begins where the life is, with the act in flight found or not.
abbrev pub LeaveLife : (keys : Keys) (p : Params) (past : PastLife) (in_flight : Option LifeAct) (may_leave : Image → Type 0) (f : AllFills) (runs : List HistoryRun) → Type 0
LeaveLife keys p past in_flight may_leave f runs = (found : List LifeAct) → Finds in_flight found → (gates : ℕ → Bool) → MayBegin keys p (with_acts past found) may_leave gates
    → MayFind p f (last_settled p f None runs) (found_of_life p (life_of p (with_acts past found)) gates)

-- What an auditor knows of the life: this, behind lines that are a history's with whatever fills the life has, and that leaves what the next run finds,
-- wherever that begins.
pub record AuditorKnows (keys : Keys) (p : Params) (past : PastLife) (in_flight : Option LifeAct) (may_leave : Image → Type 0) (known : Follow) : Type 0 where
  pub life : IsLifeLeft keys p past in_flight may_leave
  pub lines : List Line
  pub takes : TakesLines (started p) lines known
  pub history : (fills : AllFills) → AreAllFills p fills → FillsPast p past fills → (is : AreHistoryOf p fills lines) × LeaveLife keys p past in_flight may_leave fills is.runs

-- The lines of these notes, which a run was shown, may stand behind what the auditor knew, and so may their text; behind them it knows as much of where
-- the run has led the life, from these images.
pub record AreNotesAudited (keys : Keys) (p : Params) (past : PastLife) (known : Follow) (notes : List Note) (may_leave : Image → Type 0) : Type 0 where
  pub then : Follow
  pub takes : TakesLines known (L.Open false ∷ lines_of_notes notes) then
  pub read : Admitted (Some known) (lines_in (open_line false ++ lines_of notes)) (Some then)
  pub more : List LifeAct
  pub in_flight : Option LifeAct
  pub knows : AuditorKnows keys p (with_acts past more) in_flight may_leave then

-- what this store holds
abbrev pub IsHeld : Disk → Image → Type 0
IsHeld old image = image ≡ old.cells

module _ {S : Type 0} (disk : S → Disk) where
  -- so it is of the notes that a run's watch was shown, and of all images that it left
  pub record IsRunAudited (keys : Keys) (p : Params) (past : PastLife) (known : Follow) (r : TracedRun S) : Type 0 where
    pub notes : List Note
    pub shown : Shows notes r.first r.last
    pub audited : AreNotesAudited keys p past known notes (disk r.new).may_leave

  -- Who reads a format's notes knows that of a life that begins, whatever words later tapes give;
  abbrev pub FormatsAreRead : Type 0
  FormatsAreRead = (keys : Keys) (p : Params) (made_by : Given) (blank made : S) → IsFormatted ring_kind ring_lives ring_audits disk made_by keys p blank made → (disk blank).tells → (word_of : WordId → ℕ)
      → (slot : ℕ → ℕ → ℕ) × (known : Follow) × TakesLines (started p) (lines_of_notes (format_notes p)) known × AuditorKnows keys p (new_past word_of slot) None (disk made).may_leave known

  -- and whoever knows that of a life goes on so with a run that served, from any image that was left.
  abbrev pub RunsAreRead : Type 0
  RunsAreRead = (keys : Keys) (p : Params) (past : PastLife) (in_flight : Option LifeAct) (last : S) (known : Follow) → AuditorKnows keys p past in_flight (disk last).may_leave known
      → (r : TracedRun S) → IsRowRun disk keys p (disk last).may_leave r → AreTapeWords past.word_of (r.tape).generation (r.tape).words → IsRunAudited keys p past known r

  -- So does who knows it of the image alone at which the run began, whatever left that.
  abbrev pub RunsAreReadFrom : Type 0
  RunsAreReadFrom = (keys : Keys) (p : Params) (past : PastLife) (in_flight : Option LifeAct) (known : Follow) (r : TracedRun S) → AuditorKnows keys p past in_flight (IsHeld (disk r.old)) known
      → IsRowRun disk keys p (IsHeld (disk r.old)) r → AreTapeWords past.word_of (r.tape).generation (r.tape).words → IsRunAudited keys p past known r
