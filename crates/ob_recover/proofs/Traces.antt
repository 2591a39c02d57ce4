-- Worked traces, computed from the public schedule with the fills that the flat table gives: eight keys, seven buckets of two real
-- and three dummy slots, and words that are all 0 where nothing else is said.
use Rattle.std.specs.Prelude.{◌≡◌, ℕ, ◌==◌, ◌&&◌, ◌||◌, cond, List, [], ◌∷◌, ◌++◌, length, Option}
use Rattle.std.specs.declared.option.Option.TheVariants.{None, Some}
use Rattle.std.proofs.Common.{refl}
use Rattle.ob_ring.specs.FlatTable.{FlatTable, Batch, FinalLifts, Writes, Refill, picks, after}
use Rattle.ob_store.specs.declared.watch.Note.TheVariants.{Label, Read, Write, Sync}
use Rattle.ob_schedule.specs.Phases.{Reads, Syncs, Writes, batch_phases, end_phases, phases_of}
use Rattle.ob_schedule.specs.Schedule.{Public, Fills, reads_of, writes_of, format_notes, public_formatted, open_notes, after_open, batch_notes, batch_leaves, after_phase, end_notes, after_end}
use Rattle.ob_base.specs.Layout.{record_cells, log_cells, checkpoint_len, checkpoint_cells, home_cells}
use Rattle.ob_base.specs.Tree.{buckets}
use Rattle.ob_recover.specs.Bridge.{index_at}
use Rattle.ob_ring.proofs.Rows.{p0, empty}

formatting : format_notes p0 ≡ Write 0 ∷ Sync ∷ writes_of (2 ∷ 4 ∷ 6 ∷ 8 ∷ 10 ∷ 12 ∷ 14 ∷ 16 ∷ []) ++ Sync ∷ Write 4 ∷ Sync ∷ Write 3 ∷ Sync ∷ Write 4 ∷ Sync ∷ []
    ++ writes_of (39 ∷ 40 ∷ 41 ∷ 42 ∷ 43 ∷ 44 ∷ 45 ∷ 46 ∷ 47 ∷ 48 ∷ 49 ∷ 50 ∷ 51 ∷ 52 ∷ 53 ∷ 54 ∷ 55 ∷ 56 ∷ 57 ∷ 58 ∷ 59 ∷ 60 ∷ 61 ∷ 62 ∷ 63 ∷ 64 ∷ 65 ∷ 66 ∷ 67 ∷ 68 ∷ 69 ∷ 70 ∷ 71 ∷ 72 ∷ 73 ∷ [])
    ++ writes_of (17 ∷ 18 ∷ 19 ∷ 20 ∷ 21 ∷ 22 ∷ 23 ∷ 24 ∷ 25 ∷ 26 ∷ 27 ∷ []) ++ Sync ∷ Write 6 ∷ Sync ∷ Write 5 ∷ Sync ∷ Write 6 ∷ Sync ∷ Write 0 ∷ Sync ∷ []
unfolding buckets record_cells log_cells checkpoint_len checkpoint_cells home_cells
formatting = refl

seventy_two : length (format_notes p0) ≡ 72
unfolding buckets record_cells log_cells checkpoint_len checkpoint_cells home_cells
seventy_two = refl

abbrev pads : List (Option ℕ × ℕ)
pads = (None, 0) ∷ (None, 0) ∷ []

-- the first epoch, in which nothing is asked for
abbrev t1 : FlatTable
t1 = after p0 empty (Batch pads)

abbrev t2 : FlatTable
t2 = after p0 t1 (Batch pads)

abbrev fills_1 : Fills
fills_1 = record { label = λ b i. 0; slot = index_at (picks p0 empty (Batch pads) ++ picks p0 t1 (Batch pads) ++ picks p0 t2 FinalLifts) }

abbrev q1 : Public
q1 = after_open p0 (public_formatted p0) fills_1 (public_formatted p0).gates 2 0

abbrev q2 : Public
q2 = after_phase p0 q1 (batch_leaves p0 fills_1 0)

abbrev q3 : Public
q3 = after_phase p0 q2 (batch_leaves p0 fills_1 1)

opening : open_notes p0 (public_formatted p0) fills_1 (public_formatted p0).gates 2 0 ≡ reads_of (1 ∷ 2 ∷ 3 ∷ 4 ∷ 5 ∷ 6 ∷ 7 ∷ 8 ∷ 17 ∷ 18 ∷ 19 ∷ 20 ∷ 21 ∷ 22 ∷ 23 ∷ 24 ∷ 25 ∷ 26 ∷ 27 ∷ 13 ∷ 14 ∷ 15 ∷ 16 ∷ []) ++ Sync ∷ Write 1 ∷ Sync ∷ Write 2 ∷ Sync ∷ []
unfolding buckets record_cells log_cells checkpoint_len checkpoint_cells home_cells
opening = refl

batch_1 : batch_notes p0 q1 fills_1 0 ≡ Write 13 ∷ Sync ∷ Write 14 ∷ Sync ∷ Label 0 ∷ Read 41 ∷ Read 46 ∷ Read 56 ∷ Label 0 ∷ Read 42 ∷ Read 47 ∷ Read 57 ∷ []
unfolding buckets record_cells log_cells checkpoint_len checkpoint_cells home_cells
batch_1 = refl

batch_2 : batch_notes p0 q2 fills_1 1 ≡ Write 15 ∷ Sync ∷ Write 16 ∷ Sync ∷ Label 0 ∷ Read 43 ∷ Read 39 ∷ Read 40 ∷ Read 48 ∷ Read 44 ∷ Read 45 ∷ Read 58 ∷ Read 54 ∷ Read 55 ∷ Label 0 ∷ []
unfolding buckets record_cells log_cells checkpoint_len checkpoint_cells home_cells
batch_2 = refl

end_1 : end_notes p0 q3 fills_1 ≡ reads_of (49 ∷ 50 ∷ 64 ∷ 65 ∷ []) ++ writes_of (89 ∷ 90 ∷ 91 ∷ 92 ∷ 93 ∷ 99 ∷ 100 ∷ 101 ∷ 102 ∷ 103 ∷ 79 ∷ 80 ∷ 81 ∷ 82 ∷ 83 ∷ 84 ∷ 85 ∷ 86 ∷ 87 ∷ 88 ∷ 74 ∷ 75 ∷ 76 ∷ 77 ∷ 78 ∷ [])
    ++ writes_of (28 ∷ 29 ∷ 30 ∷ 31 ∷ 32 ∷ 33 ∷ 34 ∷ 35 ∷ 36 ∷ 37 ∷ 38 ∷ 10 ∷ 12 ∷ []) ++ Sync ∷ Write 7 ∷ Sync ∷ Write 8 ∷ Sync ∷ []
unfolding buckets record_cells log_cells checkpoint_len checkpoint_cells home_cells
end_1 = refl

-- the phases of these: a batch's reads are one, and so are an end's lifts
phases_1 : batch_phases p0 q1 fills_1 0 ≡ Writes (13 ∷ []) ∷ Syncs ∷ Writes (14 ∷ []) ∷ Syncs ∷ Reads (41 ∷ 46 ∷ 56 ∷ 42 ∷ 47 ∷ 57 ∷ []) ∷ []
unfolding buckets record_cells log_cells checkpoint_len checkpoint_cells home_cells
phases_1 = refl

lifts_1 : end_phases p0 q3 fills_1
    ≡ Reads (49 ∷ 50 ∷ 64 ∷ 65 ∷ [])
    ∷ phases_of (writes_of (89 ∷ 90 ∷ 91 ∷ 92 ∷ 93 ∷ 99 ∷ 100 ∷ 101 ∷ 102 ∷ 103 ∷ 79 ∷ 80 ∷ 81 ∷ 82 ∷ 83 ∷ 84 ∷ 85 ∷ 86 ∷ 87 ∷ 88 ∷ 74 ∷ 75 ∷ 76 ∷ 77 ∷ 78 ∷ [])
    ++ writes_of (28 ∷ 29 ∷ 30 ∷ 31 ∷ 32 ∷ 33 ∷ 34 ∷ 35 ∷ 36 ∷ 37 ∷ 38 ∷ 10 ∷ 12 ∷ []) ++ Sync ∷ Write 7 ∷ Sync ∷ Write 8 ∷ Sync ∷ [])
unfolding buckets record_cells log_cells checkpoint_len checkpoint_cells home_cells
lifts_1 = refl

-- a crash after the first batch, then an opening that repeats it
again : open_notes p0 q1 fills_1 q1.gates 3 1 ≡ reads_of (1 ∷ 2 ∷ 3 ∷ 4 ∷ 5 ∷ 6 ∷ 7 ∷ 8 ∷ 17 ∷ 18 ∷ 19 ∷ 20 ∷ 21 ∷ 22 ∷ 23 ∷ 24 ∷ 25 ∷ 26 ∷ 27 ∷ 13 ∷ 14 ∷ 15 ∷ 16 ∷ []) ++ Sync ∷ Write 4 ∷ Sync ∷ Write 3 ∷ Sync ∷ Write 4 ∷ Sync ∷ Label 0 ∷ Read 41 ∷ Read 46 ∷
    Read 56 ∷ Label 0 ∷ Read 42 ∷ Read 47 ∷ Read 57 ∷ []
unfolding buckets record_cells log_cells checkpoint_len checkpoint_cells home_cells
again = refl

-- a stop in the write that closes a gate: the next opening finds it closed, and doesn't close it again
closed_already : open_notes p0 q1 fills_1 (λ c. (c == 2) || (c == 6)) 3 0 ≡ reads_of (1 ∷ 2 ∷ 3 ∷ 4 ∷ 5 ∷ 6 ∷ 7 ∷ 8 ∷ 17 ∷ 18 ∷ 19 ∷ 20 ∷ 21 ∷ 22 ∷ 23 ∷ 24 ∷ 25 ∷ 26 ∷ 27 ∷ 13 ∷ 14 ∷ 15 ∷ 16 ∷ []) ++ Sync ∷ Write 3 ∷ Sync ∷ Write 4 ∷ Sync ∷ []
unfolding buckets record_cells log_cells checkpoint_len checkpoint_cells home_cells
closed_already = refl

-- the second epoch, after a put of key 5 whose word is 1
abbrev t4 : FlatTable
t4 = after p0 (after p0 (after p0 t2 FinalLifts) (Writes ((5, Some 1) ∷ []))) Refill

abbrev asks : List (Option ℕ × ℕ)
asks = (Some 5, 0) ∷ (None, 0) ∷ []

abbrev t5 : FlatTable
t5 = after p0 t4 (Batch asks)

abbrev t6 : FlatTable
t6 = after p0 t5 (Batch pads)

abbrev fills_2 : Fills
fills_2 = record { label = λ b i. cond ((b == 0) && (i == 0)) 1 0; slot = index_at (picks p0 t4 (Batch asks) ++ picks p0 t5 (Batch pads) ++ picks p0 t6 FinalLifts) }

abbrev q4 : Public
q4 = after_end p0 q3

abbrev q5 : Public
q5 = after_phase p0 q4 (batch_leaves p0 fills_2 0)

abbrev q6 : Public
q6 = after_phase p0 q5 (batch_leaves p0 fills_2 1)

batch_3 : batch_notes p0 q4 fills_2 0 ≡ Write 9 ∷ Sync ∷ Write 10 ∷ Sync ∷ Label 1 ∷ Read 76 ∷ Read 79 ∷ Read 61 ∷ Label 0 ∷ Read 77 ∷ Read 81 ∷ Read 91 ∷ []
unfolding buckets record_cells log_cells checkpoint_len checkpoint_cells home_cells
batch_3 = refl

batch_4 : batch_notes p0 q5 fills_2 1 ≡ Write 11 ∷ Sync ∷ Write 12 ∷ Sync ∷ Label 0 ∷ Read 78 ∷ Read 74 ∷ Read 75 ∷ Read 82 ∷ Read 80 ∷ Read 83 ∷ Read 92 ∷ Label 0 ∷ Read 93 ∷ Read 89 ∷ Read 90 ∷ []
unfolding buckets record_cells log_cells checkpoint_len checkpoint_cells home_cells
batch_4 = refl

end_2 : end_notes p0 q6 fills_2 ≡ reads_of (59 ∷ 60 ∷ 84 ∷ 85 ∷ 69 ∷ 70 ∷ []) ++ writes_of (54 ∷ 55 ∷ 56 ∷ 57 ∷ 58 ∷ 94 ∷ 95 ∷ 96 ∷ 97 ∷ 98 ∷ 104 ∷ 105 ∷ 106 ∷ 107 ∷ 108 ∷ 44 ∷ 45 ∷ 46 ∷ 47 ∷ 48 ∷ 49 ∷ 50 ∷ 51 ∷ 52 ∷ 53 ∷ 39 ∷ 40 ∷ 41 ∷ 42 ∷ 43 ∷ [])
    ++ writes_of (17 ∷ 18 ∷ 19 ∷ 20 ∷ 21 ∷ 22 ∷ 23 ∷ 24 ∷ 25 ∷ 26 ∷ 27 ∷ 14 ∷ 16 ∷ []) ++ Sync ∷ Write 6 ∷ Sync ∷ Write 5 ∷ Sync ∷ Write 6 ∷ Sync ∷ []
unfolding buckets record_cells log_cells checkpoint_len checkpoint_cells home_cells
end_2 = refl
