-- The small store, computed from the definitions: what is shown of it, and with which fills.
use Rattle.std.specs.Prelude.{◌≡◌, ℕ, ◌*◌, true, false, List, [], ◌∷◌, ◌++◌, replicate, map, None}
use Rattle.ob_base.specs.declared.params.Params.{Params}
use Rattle.ob_stand.specs.ContentSamples.{formatted}
use Rattle.ob_log.specs.Logs.{BatchRecord}
use Rattle.ob_schedule.specs.Phases.{Reads, phases_of}
use Rattle.ob_store.specs.declared.watch.Note.{Note}
use Rattle.ob_store.specs.declared.watch.Note.TheVariants.{Label, Read, Write, Sync}
use Rattle.ob_twin.specs.declared.gates.Gates.{Gates}
use Rattle.ob_stand.specs.ValueSamples.{numbers_of}
use Rattle.ob_recover.specs.Batches.{logged_notes}
use Rattle.ob_recover.specs.Ends.{lifts_notes}
use Rattle.ob_recover.specs.Known.{public_of_kept}
use Rattle.ob_recover.specs.ShownOpenings.{opening_notes, opened_phases}

-- a batch that asks for no key, of words that are 0
abbrev pub pads_of : ℕ → BatchRecord
pads_of batch = record { batch = batch; generation = 2; number = batch; first = 2 * batch; asks = None ∷ None ∷ []; words = 0 ∷ 0 ∷ [] }

-- both gates of the generation's register are open, and that of epoch 0
abbrev pub found_gates : Gates
found_gates = record { generation = record { zero = true; one = true }; epoch = record { zero = true; one = false } }

abbrev pub reads_of_cells : List ℕ → List Note
reads_of_cells cells = map (λ cell. Read cell) cells

pub record Sampled : Type 0 where
  pub p : Params
  pub numbers : numbers_of p ≡ 8 ∷ 2 ∷ 2 ∷ 3 ∷ 2 ∷ 2 ∷ 2 ∷ 2 ∷ 8 ∷ []
  -- the opening of generation 3 over one record
  pub opened : opening_notes p formatted (pads_of 0 ∷ []) 0 found_gates 2
      ≡ reads_of_cells (1 ∷ 2 ∷ 3 ∷ 4 ∷ 5 ∷ 6 ∷ 7 ∷ 8 ∷ 17 ∷ 18 ∷ 19 ∷ 20 ∷ 21 ∷ 22 ∷ 23 ∷ 24 ∷ 25 ∷ 26 ∷ 27 ∷ 13 ∷ 14 ∷ 15 ∷ 16 ∷ [])
      ++ (Sync ∷ Write 4 ∷ Sync ∷ Write 3 ∷ Sync ∷ Write 4 ∷ Sync ∷ []) ++ (Label 0 ∷ Read 41 ∷ Read 46 ∷ Read 56 ∷ Label 0 ∷ Read 42 ∷ Read 47 ∷ Read 57 ∷ [])
  -- over two records it repeats two batches, each a phase by itself, though they stand side by side
  pub shared : opened_phases p formatted (pads_of 0 ∷ pads_of 1 ∷ []) 0 found_gates 2
      ≡ phases_of (reads_of_cells (1 ∷ 2 ∷ 3 ∷ 4 ∷ 5 ∷ 6 ∷ 7 ∷ 8 ∷ 17 ∷ 18 ∷ 19 ∷ 20 ∷ 21 ∷ 22 ∷ 23 ∷ 24 ∷ 25 ∷ 26 ∷ 27 ∷ 13 ∷ 14 ∷ 15 ∷ 16 ∷ []) ++ (Sync ∷ Write 4 ∷ Sync ∷ Write 3 ∷ Sync ∷ Write 4 ∷ Sync ∷ []))
      ++ Reads (41 ∷ 46 ∷ 56 ∷ 42 ∷ 47 ∷ 57 ∷ []) ∷ Reads (43 ∷ 39 ∷ 40 ∷ 48 ∷ 44 ∷ 45 ∷ 58 ∷ 54 ∷ 55 ∷ []) ∷ []
  -- the batch behind it, whose second place finds its path read out
  pub logged : logged_notes p formatted (pads_of 0 ∷ []) (pads_of 1) 0
      ≡ (Write 15 ∷ Sync ∷ Write 16 ∷ Sync ∷ Label 0 ∷ []) ++ reads_of_cells (43 ∷ 39 ∷ 40 ∷ 48 ∷ 44 ∷ 45 ∷ 58 ∷ 54 ∷ 55 ∷ []) ++ (Label 0 ∷ [])
  -- and the lifts of the next path
  pub lifted : lifts_notes p formatted (pads_of 0 ∷ pads_of 1 ∷ []) ≡ reads_of_cells (49 ∷ 50 ∷ 64 ∷ 65 ∷ [])
  pub leaves : (public_of_kept p formatted (pads_of 0 ∷ pads_of 1 ∷ []) 0 found_gates).leaves ≡ replicate 4 0
