-- An end's notes are the schedule's, and its public state goes on to that of the planner's content.
use Rattle.std.specs.Prelude.{◌≡◌, ℕ, suc, ◌<◌, ◌≤◌, ◌%◌, ◌^◌, List, [], ◌∷◌, ◌++◌, Some, length, map}
use Rattle.std.proofs.Common.{append_assoc, arith, refl, sym, ap, ◌∙◌, subst}
use Rattle.ob_base.specs.declared.job.Job.{Job}
use Rattle.ob_base.specs.declared.params.Params.{Params}
use Rattle.ob_base.specs.declared.value.Write.{Write}
use Rattle.ob_base.specs.Layout.{checkpoint_cells}
use Rattle.ob_tables.specs.Version.{Version}
use Rattle.ob_check.specs.Written.{area_of}
use Rattle.ob_tables.specs.Content.{Content, Obeys}
use Rattle.ob_end.specs.EndWrites.{content_left, end_write_notes, rows_left}
use Rattle.ob_end.specs.Lifts.{lift_cells, lift_jobs, lift_notes}
use Rattle.ob_stand.specs.EpochEnds.{RefillRun}
use Rattle.ob_stand.specs.Table.{buckets_of, flat_of}
use Rattle.ob_fetch.specs.Fetches.{unlisted}
use Rattle.ob_fetch.proofs.NextLaws.{seals_listed, stands_listed}
use Rattle.ob_log.specs.Logs.{BatchRecord, RecordsFit}
use Rattle.ob_recover.specs.Repeats.{IsPlannerOf, asked_of_record, content_of_ring, table_after_records}
use Rattle.ob_ring.specs.FlatTable.{FinalLifts, FlatTable, after, stash_size}
use Rattle.ob_ring.specs.Picked.{Picked, final_picked, job_of}
use Rattle.ob_ring.specs.Ring.{Kept, StandsFor}
use Rattle.ob_ring.specs.Writing.{write_at}
use Rattle.ob_ring.proofs.PlanLaws.{job_same}
use Rattle.ob_recover.specs.Ends.{EndIsScheduled, closing_notes, ending_notes, ending_phases, gates_ended, lifts_cells, refill_notes}
use Rattle.ob_recover.specs.Known.{PlansFrom, fills_with_lifts, public_of_kept}
use Rattle.ob_recover.proofs.CellsRead.{picked_read}
use Rattle.ob_recover.proofs.Ending.{ends_are_scheduled, lifts_are}
use Rattle.ob_recover.proofs.Once.{table_once}
use Rattle.ob_schedule.specs.Paths.{eviction_path}
use Rattle.ob_schedule.specs.Phases.{Reads, cells_read, end_phases, phases_of}
use Rattle.ob_schedule.specs.Schedule.{Fills, Public, after_end, end_lifts, end_notes, log_gates, writes_of}
use Rattle.ob_seal.specs.declared.keys.Keys.{Keys}
use Rattle.ob_store.specs.Disk.{Disk}
use Rattle.ob_store.specs.Runs.{write_notes}
use Rattle.ob_store.specs.declared.watch.Note.{Note}
use Rattle.ob_store.specs.declared.watch.Note.TheVariants as note
use Rattle.ob_tables.specs.declared.entry.Entry.{Entry}
use Rattle.ob_twin.specs.Opening.{is_closed_first}
use Rattle.ob_twin.specs.Orders.{set_notes}
use Rattle.ob_twin.specs.Register.{place_of}
use Rattle.ob_twin.specs.declared.gates.Gates.{Gates}
use Rattle.ob_stand.specs.Epochs.{Read}
use Rattle.ob_end.specs.EndRuns.{IsEndMade, LeadsOn, end_writes, rows_ended}
use Rattle.ob_end.proofs.Rows.{before_closes, before_phases, behind_lifts}
use Rattle.ob_end.proofs.ToldEnds.{IsLed, cells_are}
use Rattle.ob_recover.specs.Fits.{IsPlannerFit}
use Rattle.ob_end.proofs.EndLaws.{content_is, planner_then}
use Rattle.ob_end.proofs.EndTables as tables
use Rattle.ob_end.proofs.MadeLaws as made_laws
use Rattle.ob_end.proofs.MakeLaws.{writes_are}
use Rattle.ob_end.proofs.RunLaws as runs

-- the lifts' notes, job by job
lifts_same : (p : Params) (versions : List Version) (qs : List Picked) → map (λ (j : Job). note.Read j.cell) (map (job_of p versions) qs) ≡ map (λ q. note.Read (job_of p versions q).cell) qs
lifts_same p versions [] = refl
lifts_same p versions (q ∷ qs) = ap (λ (ns : List Note). note.Read (job_of p versions q).cell ∷ ns) (lifts_same p versions qs)

-- the lifts' notes are the same, whichever of the seals and of the tables they are told by
lifts_at : (p : Params) (ring : Kept) (t : FlatTable) (c : Content) (rs : List BatchRecord) → StandsFor ring t → IsPlannerOf p c rs (unlisted ring)
    → lift_notes p (ring.metas).versions t ≡ lift_notes p c.versions (table_after_records p (flat_of p c) rs)
lifts_at p ring t c rs stands planner =
    let same : t ≡ table_after_records p (flat_of p c) rs = table_once ring t (table_after_records p (flat_of p c) rs) stands (stands_listed ring (table_after_records p (flat_of p c) rs) planner.table) in
    let jobs : job_of p (ring.metas).versions ≡ job_of p c.versions = job_same p (record (buckets_of p c) { order = (ring.metas).order }) ring.metas (seals_listed (buckets_of p c) ring planner.seals) in
    λ i. map (λ (j : Job). note.Read j.cell) (map (jobs i) (final_picked p (same i) (eviction_path p (same i).counter)))

-- and are the schedule's
pub lifts_scheduled : (p : Params) (g : ℕ) (ring : Kept) (t : FlatTable) (c : Content) (rs : List BatchRecord) (epoch : ℕ) (gates : Gates) → StandsFor ring t → PlansFrom p g gates ring c rs
    → lift_notes p (ring.metas).versions t ≡ end_lifts p (public_of_kept p c rs epoch gates) (fills_with_lifts p c rs)
lifts_scheduled p g ring t c rs epoch gates stands from =
    let t' : FlatTable = table_after_records p (flat_of p c) rs in
    lifts_at p ring t c rs stands from.planner ∙ lifts_same p c.versions (final_picked p t' (eviction_path p t'.counter)) ∙ lifts_are p c rs epoch gates from.obeys

-- they come first, and the gate behind them
pub front_at : (p : Params) (g : ℕ) (ring : Kept) (t : FlatTable) (c : Content) (rs : List BatchRecord) (epoch : ℕ) (gates : Gates) → StandsFor ring t → PlansFrom p g gates ring c rs
    → IsLed (lift_cells p (ring.metas).versions t) (lift_notes p (ring.metas).versions t) (end_phases p (public_of_kept p c rs epoch gates) (fills_with_lifts p c rs)) (end_notes p (public_of_kept p c rs epoch gates) (fills_with_lifts p c rs))
front_at p g ring t c rs epoch gates stands from =
    let q : Public = public_of_kept p c rs epoch gates in
    let f : Fills = fills_with_lifts p c rs in
    let same : lift_notes p (ring.metas).versions t ≡ end_lifts p q f = lifts_scheduled p g ring t c rs epoch gates stands from in
    record {
      steps = (behind_lifts p q f, before_closes p q f ∙ ap (λ (ns : List Note). ns ++ behind_lifts p q f) (sym same));
      rest = phases_of (behind_lifts p q f);
      phases_are = before_phases p q f ∙ ap (λ (cs : List ℕ). Reads cs ∷ phases_of (behind_lifts p q f)) (ap cells_read (sym same) ∙ cells_are (lift_jobs p (ring.metas).versions t));
    }

-- the lifts' cells, whichever of the seals and of the tables they are told by
cells_at : (p : Params) (ring : Kept) (t : FlatTable) (c : Content) (rs : List BatchRecord) → StandsFor ring t → IsPlannerOf p c rs (unlisted ring) → lift_cells p (ring.metas).versions t ≡ lifts_cells p c rs
cells_at p ring t c rs stands planner =
    let t' : FlatTable = table_after_records p (flat_of p c) rs in
    let picked : List Picked = final_picked p t' (eviction_path p t'.counter) in
    sym (cells_are (lift_jobs p (ring.metas).versions t)) ∙ ap cells_read (lifts_at p ring t c rs stands planner ∙ lifts_same p c.versions picked) ∙ picked_read p c.versions picked

-- the batches of records, as if they had read nothing
abbrev reads_of : Params → List BatchRecord → List Read
reads_of p [] = []
reads_of p (r ∷ rs) = (asked_of_record p r, []) ∷ reads_of p rs

reads_asked : (p : Params) (rs : List BatchRecord) → map (λ (b : Read). b.0) (reads_of p rs) ≡ map (asked_of_record p) rs
reads_asked p [] = refl
reads_asked p (r ∷ rs) = ap (λ xs. asked_of_record p r ∷ xs) (reads_asked p rs)

regroup : (r w g s t : List Note) → (r ++ (w ++ (g ++ s))) ++ t ≡ r ++ (w ++ (g ++ (s ++ t)))
regroup r w g s t = simp append_assoc

module _ (keys : Keys) (disk : Disk) (writes : List Write) (words : List ℕ) (g drawn next : ℕ) (ring new : Kept) (made : IsEndMade keys disk writes words g drawn next ring new)
    (low : (i : ℕ) → i < length writes → (write_at writes i).key < (ring.p).keys) (short : (i : ℕ) (value : List ℕ) → i < length writes → (write_at writes i).value ≡ Some value → length value ≤ 64)
    (fit : IsPlannerFit ring) (small : g < 2 ^ 64) (few_fit : rows_ended ring.p fit.table (end_writes ring.p writes words g drawn) ≤ (ring.p).room)
    (p : Params) (params : ring.p ≡ p) (epoch : ℕ) (gates : Gates) (c : Content) (rs : List BatchRecord) (from : PlansFrom p g gates ring c rs)
    (few : rows_ended p (table_after_records p (flat_of p c) rs) (end_writes p writes words g drawn) ≤ p.room) where
  abbrev lifted : Kept
  lifted = made.lifted

  same : lifted.p ≡ ring.p
  same = made_laws.same keys disk writes words g drawn next ring new made low short

  path : p ≡ lifted.p
  path = sym params ∙ sym same

  stands0 : StandsFor ring (table_after_records p (flat_of p c) rs)
  stands0 = stands_listed ring (table_after_records p (flat_of p c) rs) (from.planner).table

  table : StandsFor lifted (after lifted.p (table_after_records lifted.p (flat_of lifted.p c) rs) FinalLifts)
  table = subst (λ (q : Params). StandsFor lifted (after q (table_after_records q (flat_of q c) rs) FinalLifts)) path
      (subst (λ (q : Params). StandsFor lifted (after q (table_after_records p (flat_of p c) rs) FinalLifts)) params
      (made.table (table_after_records p (flat_of p c) rs) stands0))

  writes_at : end_writes p writes words g drawn ≡ tables.ws lifted new writes words g drawn next made.renews
  writes_at = sym (writes_are p (table_after_records p (flat_of p c) rs) lifted (sym path) writes words g drawn)

  few_at : stash_size lifted.p (tables.t3 lifted new writes words g drawn next made.renews (after lifted.p (table_after_records lifted.p (flat_of lifted.p c) rs) FinalLifts) table) ≤ (lifted.p).room
  few_at = subst (λ (w : List (Write × Entry)). rows_ended lifted.p (table_after_records lifted.p (flat_of lifted.p c) rs) w ≤ (lifted.p).room) writes_at
      (subst (λ (q : Params). rows_ended q (table_after_records q (flat_of q c) rs) (end_writes p writes words g drawn) ≤ q.room) path few)

  planner_at : IsPlannerOf lifted.p c rs (unlisted ring)
  planner_at = subst (λ (q : Params). IsPlannerOf q c rs (unlisted ring)) path from.planner

  book : lifted.book ≡ ring.book
  book = ap (λ (r : Kept). r.book) made.kept

  obeys_left : Obeys lifted.p (content_left new)
  obeys_left = subst (λ (q : Params). Obeys q (content_left new)) (tables.renewed_p lifted new writes words g drawn next made.renews) (made_laws.obeys keys disk writes words g drawn next ring new made low short fit small few_fit)

  abbrev run : RefillRun
  run = runs.run c rs ring lifted new writes words g drawn next made.renews planner_at book made.seals table

  scheduled : EndIsScheduled lifted.p c rs epoch gates run (content_left new)
  scheduled = ends_are_scheduled lifted.p c rs epoch gates run new.book new.counter (reads_of lifted.p rs) (tables.ws lifted new writes words g drawn next made.renews) (rows_left new)
      (subst (λ (q : Params). Obeys q c) path from.obeys) (subst (λ (q : Params). RecordsFit q rs) path from.fit) from.gate (reads_asked lifted.p rs)
      (runs.refills_from c rs ring lifted new writes words g drawn next made.renews planner_at book made.seals table (reads_of lifted.p rs) (reads_asked lifted.p rs)) obeys_left

  abbrev order : List ℕ
  order = ((made.renews).between.metas).order

  notes_at : ending_notes p c rs epoch gates (new.metas).versions order ≡ end_notes p (public_of_kept p c rs epoch gates) (fills_with_lifts p c rs)
  notes_at = subst (λ (q : Params). ending_notes q c rs epoch gates (new.metas).versions order ≡ end_notes q (public_of_kept q c rs epoch gates) (fills_with_lifts q c rs)) (sym path) scheduled.notes

  phases_at : ending_phases p c rs epoch gates (new.metas).versions order ≡ end_phases p (public_of_kept p c rs epoch gates) (fills_with_lifts p c rs)
  phases_at = subst (λ (q : Params). ending_phases q c rs epoch gates (new.metas).versions order ≡ end_phases q (public_of_kept q c rs epoch gates) (fills_with_lifts q c rs)) (sym path) scheduled.phases

  new_p : new.p ≡ p
  new_p = tables.renewed_p lifted new writes words g drawn next made.renews ∙ sym path

  writes_then : end_write_notes new (suc epoch) ++ set_notes (is_closed_first gates.epoch (place_of (suc epoch))) 5 (suc epoch) ≡ refill_notes p (new.metas).versions order ++ closing_notes p epoch gates
  writes_then =
      ap (λ (q : Params). (refill_notes q (new.metas).versions (new.metas).order ++ (write_notes (area_of q (suc epoch)) (checkpoint_cells q) ++ (writes_of (log_gates q (suc (suc epoch) % 2)) ++ note.Sync ∷ []))) ++ set_notes (is_closed_first gates.epoch (place_of (suc epoch))) 5 (suc epoch)) new_p
      ∙ ap (λ (us : List ℕ). (refill_notes p (new.metas).versions us ++ (write_notes (area_of p (suc epoch)) (checkpoint_cells p) ++ (writes_of (log_gates p (suc (suc epoch) % 2)) ++ note.Sync ∷ []))) ++ set_notes
      (is_closed_first gates.epoch (place_of (suc epoch))) 5 (suc epoch)) ((made.renews).filled).order
      ∙ regroup (refill_notes p (new.metas).versions order) (write_notes (area_of p (suc epoch)) (checkpoint_cells p)) (writes_of (log_gates p (suc (suc epoch) % 2))) (note.Sync ∷ []) (set_notes (is_closed_first gates.epoch (place_of (suc epoch))) 5 (suc epoch))

  -- the lifts, the writes and the register make the schedule's end
  whole : lift_notes p c.versions (table_after_records p (flat_of p c) rs) ++ (end_write_notes new (suc epoch) ++ set_notes (is_closed_first gates.epoch (place_of (suc epoch))) 5 (suc epoch))
      ≡ end_notes p (public_of_kept p c rs epoch gates) (fills_with_lifts p c rs)
  whole =
      let t : FlatTable = table_after_records p (flat_of p c) rs in
      (λ i. lifts_same p c.versions (final_picked p t (eviction_path p t.counter)) i ++ writes_then i) ∙ notes_at

  pub whole_at : (t : FlatTable) → StandsFor ring t → lift_notes p (ring.metas).versions t ++ (end_write_notes new (suc epoch) ++ set_notes (is_closed_first gates.epoch (place_of (suc epoch))) 5 (suc epoch))
      ≡ end_notes p (public_of_kept p c rs epoch gates) (fills_with_lifts p c rs)
  whole_at t stands = ap (λ (ns : List Note). ns ++ (end_write_notes new (suc epoch) ++ set_notes (is_closed_first gates.epoch (place_of (suc epoch))) 5 (suc epoch))) (lifts_at p ring t c rs stands from.planner) ∙ whole

  -- and its phases
  pub phases_whole : (t : FlatTable) → StandsFor ring t
      → Reads (lift_cells p (ring.metas).versions t) ∷ phases_of (end_write_notes new (suc epoch) ++ set_notes (is_closed_first gates.epoch (place_of (suc epoch))) 5 (suc epoch)) ≡ end_phases p (public_of_kept p c rs epoch gates) (fills_with_lifts p c rs)
  phases_whole t stands = (λ i. Reads (cells_at p ring t c rs stands from.planner i) ∷ phases_of (writes_then i)) ∙ phases_at

  -- ---- behind it

  module _ (last : Kept) (stash : last ≡ record new { stash = last.stash }) (rows : (last.stash).rows ≡ rows_left new) (room : (last.stash).room ≡ (new.stash).room) where
    content_at : content_of_ring last ≡ content_left new
    content_at = content_is p new last stash rows new_p

    public_at : after_end p (public_of_kept p c rs epoch gates) ≡ public_of_kept p (content_left new) [] (suc epoch) (gates_ended gates epoch)
    public_at = subst (λ (q : Params). after_end q (public_of_kept q c rs epoch gates) ≡ public_of_kept q (content_left new) [] (suc epoch) (gates_ended gates epoch)) (sym path) scheduled.behind

    obeys_p : Obeys p (content_left new)
    obeys_p = subst (λ (q : Params). Obeys q (content_left new)) (sym path) obeys_left

    room_at : (last.stash).room ≡ p.keys
    room_at = room ∙ made_laws.room_kept keys disk writes words g drawn next ring new made low short ∙ (from.planner).room

    pub leads_on : LeadsOn p g c rs epoch gates last (gates_ended gates epoch)
    leads_on = record {
      plans = record {
        obeys = subst (Obeys p) (sym content_at) obeys_p;
        fit = record { few = omega arith; each = λ b lt. absurd (omega arith) };
        planner = planner_then p new last stash rows new_p obeys_p (made_laws.none_lifted keys disk writes words g drawn next ring new made low short fit small few_fit) room_at;
        gate = scheduled.gate;
      };
      public = public_at ∙ ap (λ (x : Content). public_of_kept p x [] (suc epoch) (gates_ended gates epoch)) (sym content_at);
    }
