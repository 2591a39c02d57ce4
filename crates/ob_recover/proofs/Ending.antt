-- An end's calls show the schedule's end.
use Rattle.std.specs.Prelude.{◌≡◌, ℕ, suc, ◌+◌, ◌-◌, ◌==◌, ◌%◌, nat_le, Bool, true, false, cond, ◌||◌, List, [], ◌∷◌, ◌++◌, map, filter, length, drop, get_or, Option, if◌then◌else◌}
use Rattle.std.proofs.Common.{arith, refl, sym, ap, subst, ◌∙◌, append_assoc}
use mathlib.Core.Path.{fun_ext}
use Rattle.ob_base.specs.declared.params.Params.{Params}
use Rattle.ob_base.specs.declared.value.Write.{Write}
use Rattle.ob_base.specs.Layout.{EpochTwin, slot_cell}
use Rattle.ob_tables.specs.Buckets.{version_at}
use Rattle.ob_tables.specs.Version.{Version}
use Rattle.ob_tables.specs.Content.{Content, Obeys, Rows}
use Rattle.ob_stand.specs.Counts.{IsEndPublic, lifted_and_written, public_of}
use Rattle.ob_stand.specs.EpochEnds.{RefillRun}
use Rattle.ob_stand.specs.Table.{flat_of}
use Rattle.ob_stand.specs.Valued.{content_with}
use Rattle.ob_stand.proofs.Counts.{end_counts}
use Rattle.ob_log.specs.Logs.{BatchRecord}
use Rattle.ob_recover.specs.Repeats.{asked_of_record, table_after_records}
use Rattle.ob_ring.specs.Arrays.{IsTableOf, arrays_of, rest_of}
use Rattle.ob_ring.specs.FlatTable.{Batch, FinalLifts, FlatTable, Refill, Shown, Spot, after, after_batch, after_place, asked_row, fetch, index_shown, leaf_shown, lift, mark_index, picks, reads, refill_order, spot_of, visit, visits}
use Rattle.ob_ring.specs.Laws.{seen_in}
use Rattle.ob_ring.specs.Picked.{final_picked}
use Rattle.ob_ring.specs.Sound.{IsCounted}
use Rattle.ob_ring.specs.Writing.{leaf_writes}
use Rattle.ob_ring.proofs.Batches.{FinalLaw, final_holes_law, final_law}
use Rattle.ob_ring.proofs.JobLaws.{jobs_read_picks}
use Rattle.ob_ring.proofs.Refills.{writes_keep}
use Rattle.ob_ring.proofs.TableLaws.{few_counted}
use Rattle.ob_base.specs.Tree.{below, path}
use Rattle.ob_schedule.specs.Paths.{by_falling_level, eviction_path, is_one_of}
use Rattle.ob_schedule.specs.Holes.{final_holes}
use Rattle.ob_schedule.specs.Phases.{Reads, cells_read, phases_of}
use Rattle.ob_schedule.specs.Schedule.{Fills, Public, after_end, bucket_writes, check_cells, counts_now, end_lifts, gate_cell, hole_reads, is_lifted_by_end, log_gates, set_twin, writes_of, written_by_end}
use Rattle.ob_store.specs.declared.watch.Note.{Note}
use Rattle.ob_store.specs.declared.watch.Note.TheVariants.{Sync}
use Rattle.ob_tables.specs.declared.entry.Entry.{Entry}
use Rattle.ob_twin.specs.Opening.{HasOpen, with_mark}
use Rattle.ob_twin.specs.Register.{place_of}
use Rattle.ob_twin.specs.declared.gates.Gates.{Gates}
use Rattle.ob_twin.specs.declared.gates.Open.{Open}
use Rattle.ob_stand.specs.Epochs.{Read, after_batches, before_refill}
use Rattle.ob_recover.specs.Ends.{RefillsFrom, EndIsScheduled, EndsAreScheduled, LiftsComeFirst, closing_notes, gates_ended, lifts_cells, lifts_notes, refill_notes}
use Rattle.ob_recover.specs.Known.{AreSlotsOf, fills_with_lifts, gates_open, public_of_kept, slot_kept}
use Rattle.ob_recover.proofs.CellsRead.{picked_read}
use Rattle.ob_recover.proofs.Fills.{RecordsLead, content_leads, lifts_own}
use Rattle.ob_recover.proofs.Orders.{buckets_written, check_written, epoch_known, epoch_set}
use Rattle.ob_recover.proofs.Phases.{picked_alike, reads_agree}

-- ---- the counter stays while batches are read

either_counter : (b : Bool) (x y : FlatTable) (n : ℕ) → x.counter ≡ n → y.counter ≡ n → (cond b x y).counter ≡ n
either_counter true x y n e f = e
either_counter false x y n e f = f

pub visits_counter : (p : Params) (t : FlatTable) (own : Spot) (us : List ℕ) → (visits p t own us).counter ≡ t.counter
visits_counter p t own [] = refl
visits_counter p t own (u ∷ us) =
    let t1 : FlatTable = mark_index t u (index_shown p t own u) in
    visits_counter p (visit p t own u) own us
    ∙ either_counter (t.lifted u) t (cond (reads p t u + 1 == p.dummies) (lift t1 u) t1) t.counter refl (either_counter (reads p t u + 1 == p.dummies) (lift t1 u) t1 t.counter refl refl)

pub batch_counter : (p : Params) (t : FlatTable) (asked : List (Option ℕ × ℕ)) → (after_batch p t asked).counter ≡ t.counter
batch_counter p t [] = refl
batch_counter p t (a ∷ rest) = batch_counter p (after_place p t a.0 a.1) rest ∙ visits_counter p (fetch t a.0 a.1) (spot_of (asked_row t a.0)) (path p (leaf_shown t a.0 a.1))

records_counter : (p : Params) (t : FlatTable) (rs : List BatchRecord) → (table_after_records p t rs).counter ≡ t.counter
records_counter p t [] = refl
records_counter p t (r ∷ rs) = records_counter p (after p t (Batch (asked_of_record p r))) rs ∙ batch_counter p t (asked_of_record p r)

-- the batches that were read are those of the records
tables_are : (p : Params) (t : FlatTable) (bs : List Read) (rs : List BatchRecord) → map (λ b. b.0) bs ≡ map (asked_of_record p) rs → after_batches p t bs ≡ table_after_records p t rs
tables_are p t [] [] same = refl
tables_are p t [] (r ∷ rs) same = absurd (let e : 0 ≡ suc (length (map (asked_of_record p) rs)) = ap length same in omega arith)
tables_are p t (b ∷ bs) [] same = absurd (let e : suc (length (map (λ (x : Read). x.0) bs)) ≡ 0 = ap length same in omega arith)
tables_are p t (b ∷ bs) (r ∷ rs) same =
    let head : b.0 ≡ asked_of_record p r = ap (λ (l : List (List (Option ℕ × ℕ))). get_or l 0 []) same in
    let tail : map (λ (x : Read). x.0) bs ≡ map (asked_of_record p) rs = ap (λ (l : List (List (Option ℕ × ℕ))). drop 1 l) same in
    ap (λ (a : List (Option ℕ × ℕ)). after_batches p (after p t (Batch a)) bs) head ∙ tables_are p (after p t (Batch (asked_of_record p r))) bs rs tail

-- a gate that was set is open
set_open : (known : Open) (place : ℕ) → HasOpen (with_mark known place)
set_open known place = by_case (place == 0)
  where
    or_true : (a : Bool) → (a || true) ≡ true
    or_true true = refl
    or_true false = refl

    by_case : (b : Bool) → HasOpen (if b then record { zero = true; one = known.one } else record { zero = known.zero; one = true })
    by_case true = refl
    by_case false = or_true known.zero

-- ---- homes of the buckets that are filled anew

homes_agree : (p : Params) (test : ℕ → Bool) (h k : ℕ → ℕ) (us : List ℕ) → ((u : ℕ) → test u ≡ true → h u ≡ k u) → bucket_writes p h (filter test us) ≡ bucket_writes p k (filter test us)
homes_agree p test h k [] same = refl
homes_agree p test h k (u ∷ us) same = by_case (test u) refl (homes_agree p test h k us same)
  where
    by_case : (b : Bool) → test u ≡ b → bucket_writes p h (filter test us) ≡ bucket_writes p k (filter test us) → bucket_writes p h (cond b (u ∷ filter test us) (filter test us)) ≡ bucket_writes p k (cond b (u ∷ filter test us) (filter test us))
    by_case true is rest = λ i. writes_of (map (slot_cell p (same u is i) u) (below (p.real + p.dummies))) ++ rest i
    by_case false is rest = rest

regroup : (b c g s t : List Note) → b ++ (c ++ (g ++ (s ++ t))) ≡ (((b ++ c) ++ g) ++ s) ++ t
regroup b c g s t = simp append_assoc

-- ---- the lifts

module _ (p : Params) (c : Content) (rs : List BatchRecord) (epoch : ℕ) (gates : Gates) (obeys : Obeys p c) where
  abbrev t : FlatTable
  t = table_after_records p (flat_of p c) rs

  abbrev q : Public
  q = public_of_kept p c rs epoch gates

  abbrev f : Fills
  f = fills_with_lifts p c rs

  lead : RecordsLead p (flat_of p c) (public_of c epoch (gates_open gates)) (seen_in p (flat_of p c)) rs
  lead = content_leads p c epoch (gates_open gates) rs obeys

  counter_is : t.counter ≡ q.counter
  counter_is = records_counter p (flat_of p c) rs

  counted : IsCounted p t (counts_now p q)
  counted = lead.counted

  abbrev shown : List Shown
  shown = picks p t FinalLifts

  own : AreSlotsOf c shown f
  own = lifts_own p c rs obeys

  pub lifts_are : lifts_notes p c rs ≡ end_lifts p q f
  lifts_are =
      picked_alike p c (final_picked p t (eviction_path p t.counter)) shown (jobs_read_picks.lifts p t)
      ∙ reads_agree p q f (slot_kept c) shown own
      ∙ ap (hole_reads p q f) (final_holes_law p t (counts_now p q) lead.sound counted ∙ ap (final_holes p (counts_now p q)) counter_is)

  pub lifted_is : (u : ℕ) → (after p t FinalLifts).lifted u ≡ is_lifted_by_end p q u
  lifted_is u =
      let fin : FinalLaw p t (counts_now p q) (λ v. false) (eviction_path p t.counter) = final_law p t (counts_now p q) (λ v. false) (eviction_path p t.counter) lead.sound (record { lifted_is = counted.lifted_is; reads_is = counted.reads_is }) in
      fin.lifted_is u ∙ (λ i. is_one_of (eviction_path p (counter_is i)) u || nat_le p.dummies (counts_now p q u))

pub lifts_come_first : LiftsComeFirst
lifts_come_first p c rs epoch gates obeys fit = (
  written_by_end p (public_of_kept p c rs epoch gates),
  ap (λ (ns : List Note). ns ++ written_by_end p (public_of_kept p c rs epoch gates)) (sym (lifts_are p c rs epoch gates obeys)),
)

-- ---- the end

module _ (p : Params) (c : Content) (rs : List BatchRecord) (epoch : ℕ) (gates : Gates) (run : RefillRun) (book : List (Option Entry)) (counter : ℕ) (bs : List Read) (ws : List (Write × Entry)) (rows : Rows)
    (obeys : Obeys p c) (has : HasOpen gates.epoch) (same : map (λ (b : Read). b.0) bs ≡ map (asked_of_record p) rs) (is : RefillsFrom p run c book counter bs ws) (obeyed : Obeys p (content_with run.filled book rows counter)) where
  abbrev t' : FlatTable
  t' = table_after_records p (flat_of p c) rs

  abbrev q' : Public
  q' = public_of_kept p c rs epoch gates

  abbrev c' : Content
  c' = content_with run.filled book rows counter

  abbrev q2 : Public
  q2 = after_end p q'

  next : epoch + 1 ≡ suc epoch
  next = omega arith

  before_is : before_refill p (flat_of p c) bs ws ≡ lifted_and_written p t' (leaf_writes ws)
  before_is = ap (λ (x : FlatTable). lifted_and_written p x (leaf_writes ws)) (tables_are p (flat_of p c) bs rs same)

  order_is : (run.before).order ≡ refill_order p (lifted_and_written p t' (leaf_writes ws))
  order_is = is.listed ∙ ap (refill_order p) before_is

  table_then : IsTableOf p (arrays_of run.filled (rest_of book counter)) (after p (lifted_and_written p t' (leaf_writes ws)) Refill)
  table_then = subst (λ (x : FlatTable). IsTableOf p (arrays_of run.filled (rest_of book counter)) (after p x Refill)) before_is is.table

  public_then : IsEndPublic p q' t' (leaf_writes ws) run.before run.filled run.words run.first c'
  public_then = record {
    orderly = record { sound = (lead p c rs epoch gates obeys).sound; few = few_counted p t' (counts_now p q') (counted p c rs epoch gates obeys) };
    counted = counted p c rs epoch gates obeys;
    counter = counter_is p c rs epoch gates obeys;
    homes = λ u. ap (λ (vs : List Version). (version_at vs u).home) (sym is.began) ∙ sym ((is.seals).homes u);
    listed = order_is;
    anew = is.anew;
    whole = is.whole;
    versions = refl;
    obeys = obeyed;
    table = table_then;
  }

  ended : q2 ≡ public_of c' q2.epoch q2.gates
  ended = end_counts p q' t' (leaf_writes ws) run.before run.filled run.words run.first c' public_then

  known_then : q2.gates ≡ gates_open (gates_ended gates epoch)
  known_then = ap (λ (n : ℕ). (λ (d : ℕ). (d == gate_cell p EpochTwin n) || gates_open gates d)) next ∙ epoch_known p gates (suc epoch)

  behind : q2 ≡ public_of_kept p c' [] (suc epoch) (gates_ended gates epoch)
  behind = ended ∙ (λ i. public_of c' (next i) (known_then i))

  -- the buckets
  filled_home : (u : ℕ) → is_lifted_by_end p q' u ≡ true → (version_at (run.filled).versions u).home ≡ 1 - q'.homes u
  filled_home u up = sym (ap (λ (x : Public). x.homes u) ended) ∙ ap (λ (b : Bool). cond b (1 - q'.homes u) (q'.homes u)) up

  lifted_then : (lifted_and_written p t' (leaf_writes ws)).lifted ≡ is_lifted_by_end p q'
  lifted_then = (writes_keep (after p t' FinalLifts) (leaf_writes ws)).1 ∙ fun_ext (lifted_is p c rs epoch gates obeys)

  refilled : refill_notes p (run.filled).versions (run.before).order ≡ bucket_writes p (λ u. 1 - q'.homes u) (filter (is_lifted_by_end p q') (by_falling_level (p.levels + 1)))
  refilled =
      buckets_written p (λ u. (version_at (run.filled).versions u).home) (run.before).order
      ∙ ap (bucket_writes p (λ u. (version_at (run.filled).versions u).home)) (order_is ∙ ap (λ (test : ℕ → Bool). filter test (by_falling_level (p.levels + 1))) lifted_then)
      ∙ homes_agree p (is_lifted_by_end p q') (λ u. (version_at (run.filled).versions u).home) (λ u. 1 - q'.homes u) (by_falling_level (p.levels + 1)) filled_home

  closed : closing_notes p epoch gates ≡ writes_of (check_cells p ((epoch + 1) % 2)) ++ (writes_of (log_gates p (((epoch + 1) + 1) % 2)) ++ ((Sync ∷ []) ++ set_twin p EpochTwin (epoch + 1) (gates_open gates (gate_cell p EpochTwin (epoch + 1)))))
  closed =
      let further : suc (suc epoch) ≡ (epoch + 1) + 1 = omega arith in
      (λ i. check_written p (suc epoch) i ++ (writes_of (log_gates p (further i % 2)) ++ ((Sync ∷ []) ++ epoch_set p gates (suc epoch) has i)))
      ∙ (λ i. writes_of (check_cells p (sym next i % 2)) ++ (writes_of (log_gates p (((epoch + 1) + 1) % 2)) ++ ((Sync ∷ []) ++ set_twin p EpochTwin (sym next i) (gates_open gates (gate_cell p EpochTwin (sym next i))))))

  written : refill_notes p (run.filled).versions (run.before).order ++ closing_notes p epoch gates ≡ written_by_end p q'
  written =
      let e = epoch + 1 in
      (λ i. refilled i ++ closed i)
      ∙ regroup (bucket_writes p (λ u. 1 - q'.homes u) (filter (is_lifted_by_end p q') (by_falling_level (p.levels + 1)))) (writes_of (check_cells p (e % 2))) (writes_of (log_gates p ((e + 1) % 2))) (Sync ∷ [])
      (set_twin p EpochTwin e (gates_open gates (gate_cell p EpochTwin e)))

  lifted_cells : lifts_cells p c rs ≡ cells_read (end_lifts p q' (fills_with_lifts p c rs))
  lifted_cells = sym (picked_read p c.versions (final_picked p t' (eviction_path p t'.counter))) ∙ ap cells_read (lifts_are p c rs epoch gates obeys)

  pub end_is_scheduled : EndIsScheduled p c rs epoch gates run c'
  end_is_scheduled = record {
    notes = λ i. lifts_are p c rs epoch gates obeys i ++ written i;
    phases = λ i. Reads (lifted_cells i) ∷ phases_of (written i);
    behind = behind;
    gate = set_open gates.epoch (place_of (suc epoch));
  }

pub ends_are_scheduled : EndsAreScheduled
ends_are_scheduled p c rs epoch gates run book counter bs ws rows obeys fit has same is obeyed = end_is_scheduled p c rs epoch gates run book counter bs ws rows obeys has same is obeyed
