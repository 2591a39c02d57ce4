-- A public history, told without any machine: what each run found, and how far it came.
use Rattle.std.specs.Prelude.{◌≡◌, ◌<◌, ◌⊎◌, ℕ, ◌-◌, nat_lt, Bool, true, false, cond, List, [], ◌∷◌, ◌++◌, map, take, length, Option, Some, None}
use Rattle.std.specs.List.{flat_map}
use Rattle.std.proofs.Common.{zero, suc}
use Rattle.ob_base.specs.declared.params.Params.{Params}
use Rattle.ob_store.specs.declared.watch.Note.{Note}
use Rattle.ob_schedule.specs.Schedule.{format_notes, head_notes, record_notes}
use Rattle.ob_schedule.specs.declared.line.Line.{Line}
use Rattle.ob_schedule.specs.declared.line.Line.TheVariants as L
use Rattle.ob_histories.specs.Fills.{AllFills, AreAllFills}
use Rattle.ob_histories.specs.Runs.{RunFound, HistoryRun, HeadRun, HistoryTurn, first_turn, turn_behind, notes_of_turn, opening_step, run_notes, is_settled}

-- ---- what a stop leaves, by how many notes its step lacks

-- The gate that a setting opens with its last write but a sync, and closes first, where it was open. Under a sync it is sure.
abbrev pub IsGateLeft : Bool → ℕ → Bool → Type 0
IsGateLeft was (suc (suc (suc (suc (suc (suc lacking)))))) is = is ≡ was
IsGateLeft was (suc (suc (suc (suc (suc zero))))) is = is ≡ true → was ≡ true
IsGateLeft was lacking is = is ≡ false

-- An opening sets the next generation. Until its sync that counts as not made.
abbrev pub IsGenerationLeft : RunFound → ℕ → RunFound → Type 0
IsGenerationLeft found zero next = (next.generation ≡ suc found.generation) × (next.generation_gate ≡ true)
IsGenerationLeft found (suc lacking) next = (next.generation ≡ found.generation) × IsGateLeft found.generation_gate (suc lacking) next.generation_gate

abbrev pub IsOpeningLeft : RunFound → ℕ → RunFound → Type 0
IsOpeningLeft found lacking next =
    (next.epoch ≡ found.epoch) × (next.epoch_gate ≡ found.epoch_gate) × (next.records ≡ found.records) × IsGenerationLeft found lacking next

-- A record is open by its gate's write, which is its last but a sync.
abbrev pub AreRecordsLeft : ℕ → ℕ → ℕ → Type 0
AreRecordsLeft batch zero records = records ≡ suc batch
AreRecordsLeft batch (suc zero) records = (records ≡ batch) ⊎ (records ≡ suc batch)
AreRecordsLeft batch (suc (suc lacking)) records = records ≡ batch

abbrev pub IsBatchLeft : Params → HistoryTurn → ℕ → RunFound → Type 0
IsBatchLeft p t shown next =
    (next.epoch ≡ t.epoch) × (next.epoch_gate ≡ t.gate)
    × cond (nat_lt t.batch t.records) (next.records ≡ t.records) (AreRecordsLeft t.batch (length (record_notes p 0 t.batch) - shown) next.records)

-- the epoch has ended, or it hasn't
abbrev pub EpochEnded : HistoryTurn → RunFound → Type 0
EpochEnded t next = (next.epoch ≡ suc t.epoch) × (next.epoch_gate ≡ true) × (next.records ≡ 0)

abbrev pub EpochStays : Params → HistoryTurn → ℕ → RunFound → Type 0
EpochStays p t lacking next = (next.epoch ≡ t.epoch) × IsGateLeft t.gate lacking next.epoch_gate × (next.records ≡ p.batches)

-- An end sets the epoch last. Once its gate's write is shown it may be found.
abbrev pub IsEndLeft : Params → HistoryTurn → ℕ → RunFound → Type 0
IsEndLeft p t zero next = EpochEnded t next
IsEndLeft p t (suc zero) next = EpochEnded t next ⊎ EpochStays p t 1 next
IsEndLeft p t (suc (suc lacking)) next = EpochStays p t (suc (suc lacking)) next

abbrev pub IsTurnLeft : Params → AllFills → HistoryTurn → ℕ → RunFound → Type 0
IsTurnLeft p f t shown next = cond (nat_lt t.batch p.batches) (IsBatchLeft p t shown next) (IsEndLeft p t (length (notes_of_turn p f t) - shown) next)

-- what a run that found this, and came so far, leaves to be found
abbrev pub RunLeaves : Params → AllFills → Bool → RunFound → ℕ → ℕ → RunFound → Type 0
RunLeaves p f mirrored found zero shown next = IsOpeningLeft found (length (opening_step p f mirrored found) - shown) next
RunLeaves p f mirrored found (suc steps) shown next =
    (next.generation ≡ suc found.generation) × (next.generation_gate ≡ true) × IsTurnLeft p f (turn_behind p (first_turn found) steps) shown next

-- ---- a history

abbrev pub found_formatted : RunFound
found_formatted = record { epoch = 0; generation = 1; records = 0; generation_gate = false; epoch_gate = false }

-- Behind a format, or a run that showed its first sync. A run that stopped before left things as they were.
abbrev pub MayFind : Params → AllFills → Option HistoryRun → RunFound → Type 0
MayFind p f None found = found ≡ found_formatted
MayFind p f (Some run) found = RunLeaves p f run.mirrored run.found run.steps run.shown found

abbrev pub AreRunsBehind : Params → AllFills → Option HistoryRun → List HistoryRun → Type 0
AreRunsBehind p f last [] = Unit {0}
AreRunsBehind p f last (run ∷ runs) =
    MayFind p f last run.found × AreRunsBehind p f (cond (is_settled p f run.mirrored run.found run.steps run.shown) (Some run) last) runs

-- ---- its lines

abbrev pub lines_of_notes : List Note → List Line
lines_of_notes notes = map (λ note. L.Note note) notes

abbrev pub run_lines : Params → AllFills → HistoryRun → List Line
run_lines p f run = L.Open run.mirrored ∷ lines_of_notes (run_notes p f run)

abbrev pub head_lines : HeadRun → List Line
head_lines run = L.Open run.mirrored ∷ lines_of_notes (take run.shown head_notes)

-- a whole format, and runs behind it
pub record IsHistory (p : Params) (lines : List Line) : Type 0 where
  pub fills : AllFills
  pub runs : List HistoryRun
  pub filled : AreAllFills p fills
  pub found : AreRunsBehind p fills None runs
  pub are : lines ≡ L.Start p ∷ lines_of_notes (format_notes p) ++ flat_map (run_lines p fills) runs

-- a format that was cut short, and runs that read the head at most
pub record IsCutHistory (p : Params) (lines : List Line) : Type 0 where
  pub shown : ℕ
  pub heads : List HeadRun
  pub short : shown < length (format_notes p)
  pub are : lines ≡ L.Start p ∷ lines_of_notes (take shown (format_notes p)) ++ flat_map head_lines heads

-- histories, one behind the other, each from its format on
abbrev pub AreHistories : List (List Line) → Type 0
AreHistories [] = Unit {0}
AreHistories (lines ∷ rest) = ((p : Params) × (IsHistory p lines ⊎ IsCutHistory p lines)) × AreHistories rest
