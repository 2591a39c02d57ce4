-- A read batch's calls show the schedule's batch.
use Rattle.std.specs.Prelude.{◌≡◌, ℕ, suc, ◌+◌, ◌<◌, ◌%◌, List, [], ◌∷◌, ◌++◌, length, slice_index, slice_index_or}
use Rattle.std.proofs.Common.{arith, refl, sym, ap, subst, ◌∙◌, length-append}
use Rattle.std.proofs.lemmas.List.{append-nil}
use Rattle.std.proofs.lemmas.List.Concat.{flat_map-append}
use Rattle.ob_base.specs.declared.params.Params.{Params}
use Rattle.ob_base.specs.Repeats.{Has}
use Rattle.ob_base.proofs.Repeats.{has_left, has_right}
use Rattle.ob_tables.specs.Content.{Content, Obeys}
use Rattle.ob_stand.specs.Counts.{public_of}
use Rattle.ob_stand.specs.Table.{flat_of}
use Rattle.ob_log.specs.Logs.{BatchRecord, RecordsFit, record_at}
use Rattle.ob_log.specs.Appends.{append_notes}
use Rattle.ob_recover.specs.Repeats.{asked_of_record, repeated_notes, table_after_records}
use Rattle.ob_ring.specs.FlatTable.{Batch, FlatTable, Shown, leaves_shown, picks}
use Rattle.ob_ring.specs.Laws.{seen_in}
use Rattle.ob_schedule.specs.Phases.{Reads, cells_read, phases_of}
use Rattle.ob_schedule.specs.Schedule.{Fills, Public, after_phase, batch_leaves, phase_notes, record_notes}
use Rattle.ob_store.specs.declared.watch.Note.{Note}
use Rattle.ob_twin.specs.declared.gates.Gates.{Gates}
use Rattle.ob_recover.specs.Batches.{BatchIsScheduled, BatchesAreScheduled}
use Rattle.ob_recover.specs.Known.{AreFillsOf, fills_of, gates_open, label_among, leaves_of_records, picks_of_records, public_of_kept}
use Rattle.ob_recover.proofs.CellsRead.{batch_read_cells}
use Rattle.ob_recover.proofs.Fills.{RecordsLead, content_leads, fills_own, flat, leaves_both, leaves_many, picks_both}
use Rattle.ob_recover.proofs.ShownOpening.{leaves_are}
use Rattle.ob_recover.proofs.Orders.{record_written}
use Rattle.ob_recover.proofs.Phases.{phase_is}

last_list : (xs : List (List ℕ)) (x : List ℕ) (n : ℕ) → length xs ≡ n → slice_index_or (xs ++ x ∷ []) n [] ≡ x
last_list xs x n many = subst (λ (m : ℕ). slice_index_or (xs ++ x ∷ []) m [] ≡ x) many (at_end xs)
  where
    at_end : (ys : List (List ℕ)) → slice_index_or (ys ++ x ∷ []) (length ys) [] ≡ x
    at_end [] = refl
    at_end (y ∷ ys) = at_end ys

last_record : (rs : List BatchRecord) (r : BatchRecord) → record_at (rs ++ r ∷ []) (length rs) ≡ r
last_record [] r = refl
last_record (x ∷ rs) r = last_record rs r

module _ (p : Params) (c : Content) (rs : List BatchRecord) (r : BatchRecord) (epoch : ℕ) (gates : Gates) (f : Fills) (obeys : Obeys p c) (fit : RecordsFit p (rs ++ r ∷ [])) (fills : AreFillsOf p c (rs ++ r ∷ []) f) where
  abbrev t : FlatTable
  t = table_after_records p (flat_of p c) rs

  abbrev q : Public
  q = public_of_kept p c rs epoch gates

  abbrev leaves : List ℕ
  leaves = leaves_shown p t (asked_of_record p r)

  lead : RecordsLead p (flat_of p c) (public_of c epoch (gates_open gates)) (seen_in p (flat_of p c)) rs
  lead = content_leads p c epoch (gates_open gates) rs obeys

  low : length rs < length (rs ++ r ∷ [])
  low = let both : length (rs ++ r ∷ []) ≡ length rs + 1 = length-append rs (r ∷ []) in omega arith

  wide : length r.asks ≡ p.places
  wide = ap (λ (x : BatchRecord). length x.asks) (sym (last_record rs r)) ∙ (fit.each (length rs) low).asks_many

  labels : (i : ℕ) → f.label (length rs) i ≡ slice_index leaves i
  labels i =
      fills.labels (length rs) i low
      ∙ ap (λ (ls : List (List ℕ)). label_among ls (length rs) i) (leaves_both p (flat_of p c) rs (r ∷ []))
      ∙ ap (λ (l : List ℕ). slice_index l i) (last_list (leaves_of_records p (flat_of p c) rs) leaves (length rs) (leaves_many p (flat_of p c) rs))

  same : batch_leaves p f (length rs) ≡ leaves
  same = leaves_are p t r f (length rs) wide labels

  own : (s : Shown) → Has (picks p t (Batch (asked_of_record p r))) s → Has (picks_of_records p (flat_of p c) (rs ++ r ∷ [])) s
  own s has =
      let last : Has (picks_of_records p t (r ∷ [])) s = has_left (picks p t (Batch (asked_of_record p r))) [] s has in
      subst (λ (ss : List Shown). Has ss s) (sym (picks_both p (flat_of p c) rs (r ∷ []))) (has_right (picks_of_records p (flat_of p c) rs) (picks_of_records p t (r ∷ [])) s last)

  read : repeated_notes p c.versions t (asked_of_record p r) ≡ phase_notes p q f (batch_leaves p f (length rs))
  read = phase_is p q f c t (asked_of_record p r) refl lead.sound lead.counted (λ s has. fills.slots s (own s has)) ∙ ap (phase_notes p q f) (sym same)

  numbered : r.batch ≡ length rs
  numbered = ap (λ (x : BatchRecord). x.batch) (sym (last_record rs r)) ∙ (fit.each (length rs) low).batch_is

  logged : append_notes p (suc epoch) r.batch ≡ record_notes p ((epoch + 1) % 2) (length rs)
  logged =
      let next : suc epoch ≡ epoch + 1 = omega arith in
      ap (append_notes p (suc epoch)) numbered ∙ record_written p (suc epoch) (length rs) ∙ ap (λ (n : ℕ). record_notes p (n % 2) (length rs)) next

  flat_more : flat (leaves_of_records p (flat_of p c) rs) ++ leaves ≡ flat (leaves_of_records p (flat_of p c) (rs ++ r ∷ []))
  flat_more =
      ap (λ (l : List ℕ). flat (leaves_of_records p (flat_of p c) rs) ++ l) (sym (append-nil leaves))
      ∙ sym (flat_map-append (λ (l : List ℕ). l) (leaves_of_records p (flat_of p c) rs) (leaves ∷ []))
      ∙ ap flat (sym (leaves_both p (flat_of p c) rs (r ∷ [])))

  pub batch_is : BatchIsScheduled p c rs r epoch gates f
  batch_is = record {
    notes = λ i. logged i ++ read i;
    phases = λ i. phases_of (logged i) ++ Reads ((sym (batch_read_cells p c.versions t (asked_of_record p r)) ∙ ap cells_read read) i) ∷ [];
    begins = (phase_notes p q f (batch_leaves p f (length rs)), ap (λ (ns : List Note). ns ++ phase_notes p q f (batch_leaves p f (length rs))) (sym logged));
    behind = ap (after_phase p q) same ∙ ap (λ (l : List ℕ). record q { leaves = l }) flat_more;
  }

pub batches_are_scheduled : BatchesAreScheduled
batches_are_scheduled = record {
  own = λ p c rs r epoch gates obeys fit. batch_is p c rs r epoch gates (fills_of p c (rs ++ r ∷ [])) obeys fit (fills_own p c (rs ++ r ∷ []) obeys);
  others = λ p c rs r epoch gates f obeys fit fills. batch_is p c rs r epoch gates f obeys fit fills;
}
