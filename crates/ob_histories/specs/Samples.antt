-- Histories of a small store, and what is none.
use Rattle.std.specs.Prelude.{◌≡◌, ℕ, ◌+◌, ◌%◌, ◌==◌, ◌||◌, true, false, cond, List, [], ◌∷◌, ◌++◌, take, drop, Some, None}
use Rattle.ob_base.specs.declared.params.Params.{Params}
use Rattle.ob_base.specs.Tree.{below}
use Rattle.ob_store.specs.declared.watch.Note.{Note}
use Rattle.ob_store.specs.declared.watch.Note.TheVariants.{Label, Read, Write, Sync}
use Rattle.ob_schedule.specs.Schedule.{reads_of}
use Rattle.ob_histories.specs.Fills.{AllFills, AreAllFills}
use Rattle.ob_histories.specs.Runs.{RunFound, HistoryRun, run_notes}
use Rattle.ob_histories.specs.Histories.{found_formatted, MayFind, AreRunsBehind}

abbrev pub numbers_of : Params → List ℕ
numbers_of p = p.keys ∷ p.levels ∷ p.real ∷ p.dummies ∷ p.batches ∷ p.places ∷ p.writes ∷ p.evictions ∷ p.room ∷ []

-- Each place shows leaf 0. On its path dummies are read first, from slot 2 on, and elsewhere slots from 0 on, by lifts.
abbrev pub sample_fills : AllFills
sample_fills = record { leaf = λ epoch batch place. 0; slot = λ bucket version number. cond ((bucket == 0) || ((bucket == 1) || (bucket == 3))) ((number + 2) % 5) (number % 5) }

-- ---- two runs without a key, each of one epoch

abbrev pub found_then : RunFound
found_then = record { epoch = 1; generation = 2; records = 0; generation_gate = true; epoch_gate = true }

abbrev pub first_run : HistoryRun
first_run = record { mirrored = false; found = found_formatted; steps = 4; shown = 0 }

abbrev pub second_run : HistoryRun
second_run = record { mirrored = false; found = found_then; steps = 4; shown = 0 }

abbrev pub first_notes : List Note
first_notes =
    Read 0 ∷ Read 1 ∷ Read 2 ∷ Read 3 ∷ Read 4 ∷ Read 5 ∷ Read 6 ∷ Read 7 ∷ Read 8 ∷ Read 17 ∷ Read 18 ∷ Read 19 ∷ Read 20 ∷ Read 21 ∷ Read 22 ∷
    Read 23 ∷ Read 24 ∷ Read 25 ∷ Read 26 ∷ Read 27 ∷ Read 13 ∷ Read 14 ∷ Read 15 ∷ Read 16 ∷ Sync ∷ Write 1 ∷ Sync ∷ Write 2 ∷ Sync ∷ Write 13 ∷
    Sync ∷ Write 14 ∷ Sync ∷ Label 0 ∷ Read 41 ∷ Read 46 ∷ Read 56 ∷ Label 0 ∷ Read 42 ∷ Read 47 ∷ Read 57 ∷ Write 15 ∷ Sync ∷ Write 16 ∷ Sync ∷
    Label 0 ∷ Read 43 ∷ Read 39 ∷ Read 40 ∷ Read 48 ∷ Read 44 ∷ Read 45 ∷ Read 58 ∷ Read 54 ∷ Read 55 ∷ Label 0 ∷ Read 49 ∷ Read 50 ∷ Read 64 ∷
    Read 65 ∷ Write 89 ∷ Write 90 ∷ Write 91 ∷ Write 92 ∷ Write 93 ∷ Write 99 ∷ Write 100 ∷ Write 101 ∷ Write 102 ∷ Write 103 ∷ Write 79 ∷ Write 80 ∷
    Write 81 ∷ Write 82 ∷ Write 83 ∷ Write 84 ∷ Write 85 ∷ Write 86 ∷ Write 87 ∷ Write 88 ∷ Write 74 ∷ Write 75 ∷ Write 76 ∷ Write 77 ∷ Write 78 ∷
    Write 28 ∷ Write 29 ∷ Write 30 ∷ Write 31 ∷ Write 32 ∷ Write 33 ∷ Write 34 ∷ Write 35 ∷ Write 36 ∷ Write 37 ∷ Write 38 ∷ Write 10 ∷ Write 12 ∷
    Sync ∷ Write 7 ∷ Sync ∷ Write 8 ∷ Sync ∷ []

abbrev pub second_notes : List Note
second_notes =
    Read 0 ∷ Read 1 ∷ Read 2 ∷ Read 3 ∷ Read 4 ∷ Read 5 ∷ Read 6 ∷ Read 7 ∷ Read 8 ∷ Read 28 ∷ Read 29 ∷ Read 30 ∷ Read 31 ∷ Read 32 ∷ Read 33 ∷
    Read 34 ∷ Read 35 ∷ Read 36 ∷ Read 37 ∷ Read 38 ∷ Read 9 ∷ Read 10 ∷ Read 11 ∷ Read 12 ∷ Sync ∷ Write 4 ∷ Sync ∷ Write 3 ∷ Sync ∷ Write 4 ∷
    Sync ∷ Write 9 ∷ Sync ∷ Write 10 ∷ Sync ∷ Label 0 ∷ Read 76 ∷ Read 81 ∷ Read 91 ∷ Label 0 ∷ Read 77 ∷ Read 82 ∷ Read 92 ∷ Write 11 ∷ Sync ∷
    Write 12 ∷ Sync ∷ Label 0 ∷ Read 78 ∷ Read 74 ∷ Read 75 ∷ Read 83 ∷ Read 79 ∷ Read 80 ∷ Read 93 ∷ Read 89 ∷ Read 90 ∷ Label 0 ∷ Read 59 ∷
    Read 60 ∷ Read 84 ∷ Read 85 ∷ Read 69 ∷ Read 70 ∷ Write 54 ∷ Write 55 ∷ Write 56 ∷ Write 57 ∷ Write 58 ∷ Write 94 ∷ Write 95 ∷ Write 96 ∷
    Write 97 ∷ Write 98 ∷ Write 104 ∷ Write 105 ∷ Write 106 ∷ Write 107 ∷ Write 108 ∷ Write 44 ∷ Write 45 ∷ Write 46 ∷ Write 47 ∷ Write 48 ∷
    Write 49 ∷ Write 50 ∷ Write 51 ∷ Write 52 ∷ Write 53 ∷ Write 39 ∷ Write 40 ∷ Write 41 ∷ Write 42 ∷ Write 43 ∷ Write 17 ∷ Write 18 ∷ Write 19 ∷
    Write 20 ∷ Write 21 ∷ Write 22 ∷ Write 23 ∷ Write 24 ∷ Write 25 ∷ Write 26 ∷ Write 27 ∷ Write 14 ∷ Write 16 ∷ Sync ∷ Write 6 ∷ Sync ∷ Write 5 ∷
    Sync ∷ Write 6 ∷ Sync ∷ []

-- ---- runs with a mirror

abbrev pub mirrored_run : HistoryRun
mirrored_run = record first_run { mirrored = true }

-- it stops in the copy
abbrev pub copying_run : HistoryRun
copying_run = record { mirrored = true; found = found_formatted; steps = 0; shown = 50 }

-- ---- an end in doubt, and openings behind it that stop before their first sync

-- all but its last sync is shown, so its epoch may have ended
abbrev pub doubtful_run : HistoryRun
doubtful_run = record { mirrored = false; found = found_formatted; steps = 3; shown = 46 }

abbrev pub found_still : RunFound
found_still = record { epoch = 0; generation = 2; records = 2; generation_gate = true; epoch_gate = false }

-- the first cell of a checkpoint is read: the newer one's, or the older one's
abbrev pub newer_seen : HistoryRun
newer_seen = record { mirrored = false; found = found_then; steps = 0; shown = 10 }

abbrev pub older_seen : HistoryRun
older_seen = record { mirrored = false; found = found_still; steps = 0; shown = 10 }

-- the epoch is shown again
abbrev pub older_run : HistoryRun
older_run = record { mirrored = false; found = found_still; steps = 4; shown = 0 }

abbrev pub older_notes : List Note
older_notes =
    Read 0 ∷ Read 1 ∷ Read 2 ∷ Read 3 ∷ Read 4 ∷ Read 5 ∷ Read 6 ∷ Read 7 ∷ Read 8 ∷ Read 17 ∷ Read 18 ∷ Read 19 ∷ Read 20 ∷ Read 21 ∷ Read 22 ∷
    Read 23 ∷ Read 24 ∷ Read 25 ∷ Read 26 ∷ Read 27 ∷ Read 13 ∷ Read 14 ∷ Read 15 ∷ Read 16 ∷ Sync ∷ Write 4 ∷ Sync ∷ Write 3 ∷ Sync ∷ Write 4 ∷
    Sync ∷ Label 0 ∷ Read 41 ∷ Read 46 ∷ Read 56 ∷ Label 0 ∷ Read 42 ∷ Read 47 ∷ Read 57 ∷ Label 0 ∷ Read 43 ∷ Read 39 ∷ Read 40 ∷ Read 48 ∷
    Read 44 ∷ Read 45 ∷ Read 58 ∷ Read 54 ∷ Read 55 ∷ Label 0 ∷ Read 49 ∷ Read 50 ∷ Read 64 ∷ Read 65 ∷ Write 89 ∷ Write 90 ∷ Write 91 ∷ Write 92 ∷
    Write 93 ∷ Write 99 ∷ Write 100 ∷ Write 101 ∷ Write 102 ∷ Write 103 ∷ Write 79 ∷ Write 80 ∷ Write 81 ∷ Write 82 ∷ Write 83 ∷ Write 84 ∷
    Write 85 ∷ Write 86 ∷ Write 87 ∷ Write 88 ∷ Write 74 ∷ Write 75 ∷ Write 76 ∷ Write 77 ∷ Write 78 ∷ Write 28 ∷ Write 29 ∷ Write 30 ∷ Write 31 ∷
    Write 32 ∷ Write 33 ∷ Write 34 ∷ Write 35 ∷ Write 36 ∷ Write 37 ∷ Write 38 ∷ Write 10 ∷ Write 12 ∷ Sync ∷ Write 7 ∷ Sync ∷ Write 8 ∷ Sync ∷ []

-- its first label and the slot behind it
abbrev pub older_home_run : HistoryRun
older_home_run = record { mirrored = false; found = found_still; steps = 1; shown = 2 }

-- a run that stops before its sync, and what it would find
abbrev pub third_found : RunFound
third_found = record { epoch = 0; generation = 2; records = 3; generation_gate = true; epoch_gate = false }

-- a run that repeats a batch, of which its first place is shown
abbrev pub batch_run : HistoryRun
batch_run = record { mirrored = false; found = found_formatted; steps = 1; shown = 5 }

abbrev pub found_batch : RunFound
found_batch = record { epoch = 0; generation = 2; records = 1; generation_gate = true; epoch_gate = false }

abbrev pub again_run : HistoryRun
again_run = record { mirrored = false; found = found_batch; steps = 1; shown = 1 }

-- each epoch's first place shows leaf 1, whose path has buckets 0, 1 and 4
abbrev pub one_leaf : (ℕ → ℕ → ℕ → ℕ) → AllFills
one_leaf slot = record { leaf = λ epoch batch place. cond (batch + place == 0) 1 0; slot = slot }

abbrev pub slot_run : HistoryRun
slot_run = record { mirrored = false; found = found_formatted; steps = 1; shown = 8 }

abbrev pub next_slot_run : HistoryRun
next_slot_run = record { mirrored = false; found = found_then; steps = 1; shown = 8 }

pub record Sampled : Type 0 where
  pub p : Params
  pub numbers : numbers_of p ≡ 8 ∷ 2 ∷ 2 ∷ 3 ∷ 2 ∷ 2 ∷ 2 ∷ 2 ∷ 8 ∷ []
  pub filled : AreAllFills p sample_fills
  -- the two runs
  pub found : AreRunsBehind p sample_fills None (first_run ∷ second_run ∷ [])
  pub first : run_notes p sample_fills first_run ≡ first_notes
  pub second : run_notes p sample_fills second_run ≡ second_notes
  -- one with a mirror reads the epoch's register and the 109 cells behind the head; a stop among these leaves what a run finds
  pub mirrored : run_notes p sample_fills mirrored_run ≡ Read 0 ∷ (Read 5 ∷ Read 6 ∷ Read 7 ∷ Read 8 ∷ reads_of (below 109)) ++ drop 1 first_notes
  pub copied : AreRunsBehind p sample_fills None (copying_run ∷ mirrored_run ∷ second_run ∷ [])
  -- the end in doubt: each opening may find either epoch, until one has its sync
  pub newer : AreRunsBehind p sample_fills None (doubtful_run ∷ older_seen ∷ newer_seen ∷ older_seen ∷ second_run ∷ [])
  pub older : AreRunsBehind p sample_fills None (doubtful_run ∷ newer_seen ∷ older_seen ∷ newer_seen ∷ older_run ∷ [])
  pub again : run_notes p sample_fills older_run ≡ older_notes
  -- a run that finds the older epoch reads the root in the home that it has there, and not in the newer epoch's
  pub older_home : (slot : ℕ → ℕ → ℕ → ℕ) → drop 32 (run_notes p (one_leaf slot) older_home_run) ≡ Read (39 + slot 0 0 0) ∷ []
  pub no_newer_home : (slot : ℕ → ℕ → ℕ → ℕ) (x : ℕ) → AreAllFills p (one_leaf slot) → drop 32 (run_notes p (one_leaf slot) older_home_run) ≡ Read (74 + x) ∷ [] → ⊥
  -- behind the whole end no run finds the older epoch
  pub no_older : MayFind p sample_fills (Some first_run) found_still → ⊥
  -- two records are open, and no third is found
  pub no_third : (f : AllFills) → MayFind p f (Some doubtful_run) third_found → ⊥
  -- a place shows its leaf in each run of its epoch
  pub no_other_leaf : (f : AllFills) → run_notes p f batch_run ≡ take 33 first_notes ++ Label 0 ∷ [] → run_notes p f again_run ≡ take 31 older_notes ++ Label 1 ∷ [] → ⊥
  -- a bucket that no epoch filled shows another slot in the next one
  pub first_slot : (slot : ℕ → ℕ → ℕ → ℕ) → drop 36 (run_notes p (one_leaf slot) slot_run) ≡ Read (59 + slot 4 0 0) ∷ []
  pub next_slot : (slot : ℕ → ℕ → ℕ → ℕ) → drop 38 (run_notes p (one_leaf slot) next_slot_run) ≡ Read (59 + slot 4 0 1) ∷ []
  -- the root, which each end fills anew, has its new version's first slot
  pub root_slot : (slot : ℕ → ℕ → ℕ → ℕ) → take 1 (drop 36 (run_notes p (one_leaf slot) next_slot_run)) ≡ Read (74 + slot 0 1 0) ∷ []
  pub no_slot_twice : (slot : ℕ → ℕ → ℕ → ℕ) → AreAllFills p (one_leaf slot) → slot 4 0 0 ≡ slot 4 0 1 → ⊥
