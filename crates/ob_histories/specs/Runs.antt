-- What a run shows: the schedule's notes, from what it found on, as far as it came.
use Rattle.std.specs.Prelude.{ℕ, nat_lt, Bool, true, cond, List, ◌%◌, ◌+◌, ◌++◌, take, length}
use Rattle.std.proofs.Common.{zero, suc}
use Rattle.ob_base.specs.declared.params.Params.{Params}
use Rattle.ob_base.specs.Layout.{GenerationTwin, EpochTwin, LogArea}
use Rattle.ob_store.specs.declared.watch.Note.{Note}
use Rattle.ob_schedule.specs.Schedule.{batch_leaves, batch_notes, before_repeats, check_cells, end_notes, first_reads, phase_notes, reads_of, region_cells}
use Rattle.ob_histories.specs.Fills.{AllFills, public_at, public_in_epoch, fills_at}

pub record RunFound : Type 0 where
  pub epoch : ℕ  -- the durable one
  pub generation : ℕ
  pub records : ℕ  -- open ones, of the epoch that runs behind the durable one
  pub generation_gate : Bool  -- of the next generation: whether it is open
  pub epoch_gate : Bool  -- of the next epoch

-- A run makes steps: the opening, then what is left of the epoch that it found, and so on, epoch by epoch.
pub record HistoryRun : Type 0 where
  pub mirrored : Bool  -- with a mirror, to which it copies the store first
  pub found : RunFound
  pub steps : ℕ  -- whole ones
  pub shown : ℕ  -- notes of the step behind them

-- behind a format that was cut short a run shows the head at most
pub record HeadRun : Type 0 where
  pub mirrored : Bool
  pub shown : ℕ

-- A step behind an opening: a batch of an epoch, or, behind the last batch, its end.
pub record HistoryTurn : Type 0 where
  pub epoch : ℕ  -- the durable one
  pub batch : ℕ
  pub records : ℕ  -- the batches below are repeated
  pub gate : Bool  -- whether the gate that the end opens is open before

abbrev pub first_turn : RunFound → HistoryTurn
first_turn found = record { epoch = found.epoch; batch = 0; records = found.records; gate = found.epoch_gate }

-- the gate of the epoch but one is that of a durable epoch
abbrev pub next_turn : Params → HistoryTurn → HistoryTurn
next_turn p t = cond (nat_lt t.batch p.batches) (record t { batch = suc t.batch }) (record { epoch = suc t.epoch; batch = 0; records = 0; gate = true })

-- so many turns later
abbrev pub turn_behind : Params → HistoryTurn → ℕ → HistoryTurn
turn_behind p t zero = t
turn_behind p t (suc n) = turn_behind p (next_turn p t) n

-- a batch that is repeated has no record
abbrev pub notes_of_batch : Params → AllFills → HistoryTurn → List Note
notes_of_batch p f t =
    cond (nat_lt t.batch t.records)
    (phase_notes p (public_in_epoch p f t.epoch t.batch) (fills_at p f t.epoch) (batch_leaves p (fills_at p f t.epoch) t.batch))
    (batch_notes p (public_in_epoch p f t.epoch t.batch) (fills_at p f t.epoch) t.batch)

abbrev pub notes_of_end : Params → AllFills → HistoryTurn → List Note
notes_of_end p f t = end_notes p (record (public_in_epoch p f t.epoch p.batches) { gates = λ cell. t.gate }) (fills_at p f t.epoch)

abbrev pub notes_of_turn : Params → AllFills → HistoryTurn → List Note
notes_of_turn p f t = cond (nat_lt t.batch p.batches) (notes_of_batch p f t) (notes_of_end p f t)

-- what an opening reads before its first sync
abbrev pub opening_reads : Params → AllFills → Bool → RunFound → List Note
opening_reads p f mirrored found =
    first_reads p mirrored
    ++ (reads_of (region_cells p GenerationTwin ++ region_cells p EpochTwin) ++ reads_of (check_cells p ((public_at p f found.epoch).epoch % 2)) ++ reads_of (region_cells p (LogArea (((public_at p f found.epoch).epoch + 1) % 2))))

-- an opening's notes but for the batches that it repeats
abbrev pub opening_step : Params → AllFills → Bool → RunFound → List Note
opening_step p f mirrored found = first_reads p mirrored ++ before_repeats p (public_at p f found.epoch) (λ cell. found.generation_gate) (suc found.generation)

-- whole steps, and a front of the one behind them
abbrev pub notes_from : Params → AllFills → HistoryTurn → ℕ → ℕ → List Note
notes_from p f t zero shown = take shown (notes_of_turn p f t)
notes_from p f t (suc steps) shown = notes_of_turn p f t ++ notes_from p f (next_turn p t) steps shown

abbrev pub notes_shown : Params → AllFills → Bool → RunFound → ℕ → ℕ → List Note
notes_shown p f mirrored found zero shown = take shown (opening_step p f mirrored found)
notes_shown p f mirrored found (suc steps) shown = opening_step p f mirrored found ++ notes_from p f (first_turn found) steps shown

abbrev pub run_notes : Params → AllFills → HistoryRun → List Note
run_notes p f run = notes_shown p f run.mirrored run.found run.steps run.shown

-- it has shown its first sync, with which what it found stands
abbrev pub is_settled : Params → AllFills → Bool → RunFound → ℕ → ℕ → Bool
is_settled p f mirrored found zero shown = nat_lt (length (opening_reads p f mirrored found)) shown
is_settled p f mirrored found (suc steps) shown = true
