-- An opening that was refused is a run as a history's.
use Rattle.std.specs.Prelude.{◌≡◌, ◌<◌, ◌≤◌, ◌⊎◌, ℕ, ◌+◌, ◌%◌, Bool, true, false, cond, List, [], ◌++◌, length, take}
use Rattle.std.proofs.Common.{zero, suc, arith, refl, sym, ap, ◌∙◌, subst, inl, inr}
use Rattle.std.proofs.lemmas.Bool.{cases_lt}
use Rattle.std.proofs.lemmas.List.{append-nil, length-map}
use Rattle.ob_base.specs.Layout.{EpochTwin}
use Rattle.ob_base.specs.Repeats.{Has}
use Rattle.ob_base.proofs.Repeats.{has_left, has_right}
use Rattle.ob_base.specs.declared.params.Params.{Params}
use Rattle.ob_store.specs.Disk.{Image}
use Rattle.ob_store.specs.declared.watch.Note.{Note}
use Rattle.ob_log.specs.Logs.{RecordsFit}
use Rattle.ob_twin.specs.Register.{IsOpen}
use Rattle.ob_schedule.specs.Schedule.{Fills, gate_cell, head_notes, open_notes}
use Rattle.ob_seal.specs.declared.keys.Keys.{Keys}
use Rattle.ob_ring.specs.FlatTable.{FlatTable, reads}
use Rattle.ob_stand.proofs.Reading.{reads_are_marks}
use Rattle.ob_stand.specs.Stands.{RingStanding}
use Rattle.ob_recover.proofs.Living.{lives_show_fills}
use Rattle.ob_recover.specs.Calls.{repeated}
use Rattle.ob_recover.specs.Known.{fills_of, gates_open, public_of_kept}
use Rattle.ob_recover.specs.Life.{WordId, LabelFill, LifeBatch, LifeState, SlotFill, Open, ShowBatch, lift_slots, life_slots, life_step, log_slots, planned_labels, planned_slots, reached, table_now}
use Rattle.ob_recover.specs.LifePublic.{public_in}
use Rattle.ob_recover.specs.Lives.{LifeShowsFills, life_batch}
use Rattle.ob_opening.specs.OpeningActs.{notes_of_opening}
use Rattle.ob_vault.proofs.Ending.{records_fit_of}
use Rattle.ob_vault.proofs.OpenedLife.{repeats_leaves, repeats_live, repeats_slots}
use Rattle.ob_histories.specs.Fills.{AllFills}
use Rattle.ob_histories.specs.Runs.{opening_step}
use Rattle.ob_admitted.specs.Fills.{FillsAll}
use Rattle.ob_admitted.specs.Repeats.{begin_acts}
use Rattle.ob_admitted.specs.Lives.{IsRepeatedRun, IsStoppedRun}
use Rattle.ob_admitted.specs.Openings.{IsOpeningShown, OpeningsAreRuns}
use Rattle.ob_admitted.specs.Wholes.{AreGatesKept, IsRunFilled, found_of_life, notes_of_run}
use Rattle.ob_admitted.proofs.Parts.{marked, open_marked, opening_by, two_places}

module _ (keys : Keys) (p : Params) (word_of : WordId → ℕ) (f : AllFills) (s : LifeState) (image : Image) (notes : List Note) (is : IsOpeningShown keys p word_of s image notes) where
  abbrev st : RingStanding
  st = (is.here).standing

  abbrev begun : LifeState
  begun = life_step p word_of s (Open (suc s.generation))

  abbrev pub found : ℕ → Bool
  found = gates_open is.gates

  abbrev pub fills : Fills
  fills = fills_of p st.content st.records

  fit : RecordsFit p st.records
  fit = records_fit_of keys p (suc st.epoch) st.records image (((is.here).stands).holds).log

  shows : LifeShowsFills p word_of st.content st.records s
  shows = lives_show_fills p word_of st.content st.records s (((is.here).stands).holds).obeys fit (is.here).life

  log_many : length s.log ≡ length st.records
  log_many = ap (λ (log : List LifeBatch). length log) ((is.here).life).log ∙ length-map st.records life_batch

  -- ---- its notes

  opening_is : notes_of_opening p st is.gates (length st.records) is.shown is.known ≡ open_notes p (public_in p word_of s found) fills found (suc s.generation) (length s.log)
  opening_is =
      opening_by p fills found (public_of_kept p st.content is.shown st.epoch is.known) (public_in p word_of s found) (suc st.generation) (suc s.generation) (length st.records) (length s.log) (is.here).epoch (λ i u. sym (((is.here).life).homes u) i)
      (λ i u. sym (ap (λ (t : FlatTable). reads p t u) ((is.here).life).table ∙ reads_are_marks p st.content u (((is.here).stands).holds).obeys) i) (sym (ap (λ (t : FlatTable). t.counter) ((is.here).life).table))
      (ap suc (is.here).generation) (sym log_many)

  pub all_notes : notes ≡ take is.count (notes_of_run p word_of s fills found found [])
  all_notes = is.notes_are ∙ (λ i. take is.count (head_notes ++ opening_is i)) ∙ ap (λ (ns : List Note). take is.count ns) (sym (append-nil (head_notes ++ open_notes p (public_in p word_of s found) fills found (suc s.generation) (length s.log))))

  -- ---- the gates, which are known as they are found

  durable : found (gate_cell p EpochTwin s.epoch) ≡ true
  durable =
      marked is.gates (s.epoch % 2) (two_places s.epoch)
      ∙ open_marked (is.gates).epoch image (is.are).epoch (s.epoch % 2) (two_places s.epoch) (subst (λ (n : ℕ). IsOpen 5 image (n % 2)) (is.here).epoch (((is.here).stands).epoch).open_at)

  pub kept : AreGatesKept p s.epoch found found
  kept = record { durable = durable; next = refl }

  -- ---- its fills

  planned_again : (t : LifeState) (n : ℕ) → planned_labels p word_of (reached p word_of t (repeated n)) ≡ planned_labels p word_of t
  planned_again t zero = refl
  planned_again t (suc n) = planned_again (life_step p word_of t ShowBatch) n

  -- what the batches of the log show is planned
  in_plan : (x : SlotFill) → Has (log_slots p word_of (s.epoch + 1) s.content (s.content).table s.log) x → Has (planned_slots p word_of s) x
  in_plan x h =
      has_right s.past_slots (log_slots p word_of (s.epoch + 1) s.content (s.content).table s.log ++ cond s.lifting (lift_slots p word_of (s.epoch + 1) s.content (table_now p word_of s)) []) x
      (has_left (log_slots p word_of (s.epoch + 1) s.content (s.content).table s.log) (cond s.lifting (lift_slots p word_of (s.epoch + 1) s.content (table_now p word_of s)) []) x h)

  -- so what is planned fills the opening
  again_filled : FillsAll p word_of f (planned_labels p word_of s) (planned_slots p word_of s) → FillsAll p word_of f (planned_labels p word_of s) (life_slots p word_of s (begin_acts s (suc s.generation)))
  again_filled filled = record { leaves = filled.leaves; slots_are = λ x h. filled.slots_are x (in_plan x (repeats_slots p word_of begun (length s.log) x h)) }

  module _ (filled : FillsAll p word_of f (planned_labels p word_of s) (life_slots p word_of s (begin_acts s (suc s.generation)))) where
    pub run_filled : IsRunFilled p word_of f s fills [] [] []
    run_filled = record {
      begins = (omega arith, repeats_live p word_of begun (length s.log) (omega arith));
      life = tt;
      whole = tt;
      opening = record {
        labels = repeats_leaves p word_of fills begun (length s.log) (λ b lt. shows.labels b (let many = log_many in omega (arith, lt, many)));
        slots = λ x has. shows.slots x (repeats_slots p word_of begun (length s.log) x has);
      };
      opening_slots = record { leaves = λ l h. absurd h; slots_are = filled.slots_are };
      steps_are = tt;
      shown = refl;
      fills = record { leaves = λ l h. filled.leaves l (subst (λ (ls : List LabelFill). Has ls l) (planned_again begun (length s.log)) h); slots_are = λ x h. absurd h };
    }

    by_length : (is.count < length (opening_step p f false (found_of_life p s found))) ⊎ (length (opening_step p f false (found_of_life p s found)) ≤ is.count) → IsStoppedRun p word_of f s found notes ⊎ IsRepeatedRun p word_of f s found notes
    by_length (inl few) = inl (record { opening = fills; gates = found; count = is.count; kept = kept; filled = run_filled; short = omega (arith, few); shown = all_notes })
    by_length (inr many) = inr (record { opening = fills; gates = found; count = is.count; kept = kept; filled = run_filled; begun = many; shown = all_notes })

    pub opening_is_run : IsStoppedRun p word_of f s found notes ⊎ IsRepeatedRun p word_of f s found notes
    opening_is_run = by_length (cases_lt is.count (length (opening_step p f false (found_of_life p s found))))

pub openings_are : OpeningsAreRuns
openings_are keys p word_of f s image notes is filled = opening_is_run keys p word_of f s image notes is (again_filled keys p word_of f s image notes is filled)
