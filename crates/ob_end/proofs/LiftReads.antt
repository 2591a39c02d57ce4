-- The final lifts: what their call answers and tells.
use Rattle.std.proofs.Common.{◌≡◌, ◌≢◌, inl, inr, ℕ, suc, ◌≤◌, List, [], ◌∷◌, Option, Some, None, Result, Ok, Err, map, length, refl, sym, ◌∙◌, ap, subst, arith}
use Rattle.ob_base.specs.declared.params.Params.{Params}
use Rattle.ob_base.specs.declared.job.Job.{Job}
use Rattle.ob_base.specs.declared.fault.Damaged.{Damaged as Damage}
use Rattle.ob_base.specs.declared.fault.Fault.{Fault}
use Rattle.ob_base.specs.declared.fault.Fault.TheVariants.{Memory, Usage, BadScript, BadParams, NotStore, Damaged, StoreFault, StashFull, Worn, SourceFault, SinkFault}
use Rattle.ob_base.specs.Planned.{Planned, job_at, most_jobs}
use Rattle.ob_cells.specs.Jobs.{AreFilled, AreJobsRead, IsFirstFailing, cells_of}
use Rattle.ob_tables.specs.Buckets.{Buckets}
use Rattle.ob_tables.specs.Version.{Version}
use Rattle.ob_tables.specs.Content.{Rows}
use Rattle.ob_tables.specs.Kept.{Held}
use Rattle.ob_stand.proofs.Calling.{plans_are_read}
use Rattle.ob_recover.proofs.RepeatLaws.{jobs_run, jobs_same}
use Rattle.ob_recover.proofs.ShowLaws.{none_placed}
use Rattle.ob_recover.specs.Repeats.{BatchTells, IsRepeatFault, JobsAnswer, RowsJoin}
use Rattle.ob_recover.specs.Shows.{placed_notes}
use Rattle.ob_ring.specs.FlatTable.{FlatTable}
use Rattle.ob_ring.specs.Picked.{SameSeals, final_picked, job_of}
use Rattle.ob_ring.specs.Ring.{IsLifting, Kept}
use Rattle.ob_ring.specs.Settling.{first_fault, rows_after}
use Rattle.ob_schedule.specs.Paths.{eviction_path}
use Rattle.ob_seal.specs.declared.keys.Keys.{Keys}
use Rattle.ob_stand.specs.Reads.{plains_in}
use Rattle.ob_store.specs.Disk.{Image}
use Rattle.ob_store.specs.Lines.{Trace}
use Rattle.ob_store.specs.declared.event.Event.{Event}
use Rattle.ob_store.specs.declared.watch.Note.{Note}
use Rattle.ob_store.specs.declared.watch.Note.TheVariants as note
use Rattle.ob_end.proofs.LiftsFew.{lifts_few}
use Rattle.ob_ring.specs.Picked.{Picked}
use Rattle.ob_end.specs.Lifts.{LiftsAnswer, lift_cells, lift_jobs, lift_notes, lifts_picked}

length-map : {X Y : Type 0} (f : X → Y) (xs : List X) → length (map f xs) ≡ length xs
length-map f [] = refl
length-map f (x ∷ xs) = ap suc (length-map f xs)

-- the keys of jobs that were read are those of the jobs before
filled_keys : (p : Params) (versions : List Version) (qs : List Picked) (new : List Job) (plain : ℕ → List ℕ) → AreFilled (map (job_of p versions) qs) new plain → map (λ j. j.key) new ≡ map (λ q. q.key) qs
filled_keys p versions [] [] plain filled = refl
filled_keys p versions [] (n ∷ ns) plain filled = (let many = filled.many in absurd (omega arith))
filled_keys p versions (q ∷ qs) [] plain filled = (let many = filled.many in absurd (omega arith))
filled_keys p versions (q ∷ qs) (n ∷ ns) plain filled =
    let many = filled.many in
    let rest : AreFilled (map (job_of p versions) qs) ns (λ i. plain (suc i)) = record { many = omega arith; each = λ i lt. filled.each (suc i) (omega arith) } in
    ap (λ (j : Job). j.key ∷ map (λ (j : Job). j.key) ns) (filled.each 0 (omega arith)) ∙ ap (λ (l : List (Option ℕ)). q.key ∷ l) (filled_keys p versions qs ns (λ i. plain (suc i)) rest)

none_some : (x : List ℕ) (o : Option (List ℕ)) → o ≡ Some x → o ≢ None
none_some x o e f = let both : None ≡ Some x = sym f ∙ e in absurd (cc)

pub rows_join : (old mid : Kept) (now : Planned) (js : List Job) (t : FlatTable) (rows rows' : Rows) (plain : ℕ → List ℕ) → IsLifting old mid now t → AreFilled now.jobs js plain → first_fault js ≡ None → rows' ≡ rows_after rows js
    → RowsJoin (lifts_picked old.p t) rows rows'
rows_join old mid now js t rows rows' plain planned filled faultless rows_are = record {
  jobs = js;
  keys = filled_keys old.p (old.metas).versions (lifts_picked old.p t) js plain (subst (λ (xs : List Job). AreFilled xs js plain) planned.jobs filled);
  read = λ i lt. none_some (plain i) (job_at js i).result (ap (λ (j : Job). j.result) (filled.each i (let many = filled.many in omega arith)));
  faultless = faultless;
  rows_are = rows_are;
}

-- there is room for them
pub planned_few : (p : Params) (t : FlatTable) (versions : List Version) (js : List Job) → js ≡ map (job_of p versions) (final_picked p t (eviction_path p t.counter)) → length js ≤ most_jobs p
planned_few p t versions js is =
    let long : length js ≡ length (lifts_picked p t) = ap length is ∙ length-map (job_of p versions) (lifts_picked p t) in
    let few = lifts_few p t in
    omega arith

module _ (keys : Keys) (image : Image) (old mid : Kept) (now : Planned) (js : List Job) (start : Buckets) (t : FlatTable) (seals : SameSeals start old.metas) (planned : IsLifting old mid now t) where
  jobs_are : now.jobs ≡ lift_jobs old.p start.versions t
  jobs_are = planned.jobs ∙ jobs_same old.p start old.metas (lifts_picked old.p t) seals

  -- they were settled
  pub lifted_well : (rows rows' : Rows) → AreJobsRead keys image now.jobs js → first_fault js ≡ None → rows' ≡ rows_after rows js → LiftsAnswer keys old.p start.versions image t rows rows' (Ok tt)
  lifted_well rows rows' read faultless rows_are = record {
    jobs = js;
    read = plans_are_read.lifts old mid now t start (plains_in keys image) js seals planned (jobs_run keys image now.jobs js read);
    faultless = faultless;
    rows_are = rows_are;
  }

  -- or a row broke its form
  pub lifted_badly : (rows rows' : Rows) (d : Damage) → AreJobsRead keys image now.jobs js → first_fault js ≡ Some d → LiftsAnswer keys old.p start.versions image t rows rows' (Err (Damaged d.cell d.check d.kept d.computed))
  lifted_badly rows rows' d read first = inr (record {
    jobs = js;
    read = plans_are_read.lifts old mid now t start (plains_in keys image) js seals planned (jobs_run keys image now.jobs js read);
    first = first;
  })

  -- or a job failed
  pub not_lifted : (rows rows' : Rows) (f : Fault) → IsRepeatFault f → JobsAnswer keys image now.jobs js (Err f) → LiftsAnswer keys old.p start.versions image t rows rows' (Err f)
  not_lifted rows rows' Memory fault answer = absurd fault
  not_lifted rows rows' Usage fault answer = absurd fault
  not_lifted rows rows' (BadScript line) fault answer = absurd fault
  not_lifted rows rows' (BadParams field) fault answer = absurd fault
  not_lifted rows rows' NotStore fault answer = absurd fault
  not_lifted rows rows' (Damaged cell check kept computed) fault answer = inl (subst (λ (xs : List Job). IsFirstFailing keys image xs (Damaged cell check kept computed)) jobs_are answer)
  not_lifted rows rows' (StoreFault unsure) fault answer = tt
  not_lifted rows rows' (StashFull full) fault answer = absurd fault
  not_lifted rows rows' (Worn number) fault answer = absurd fault
  not_lifted rows rows' SourceFault fault answer = absurd fault
  not_lifted rows rows' SinkFault fault answer = absurd fault

-- what is told of them is that of the table's lifts
pub lifts_tell : (most : ℕ) (old mid : Kept) (now : Planned) → now.places ≡ [] → (start : Buckets) (t : FlatTable) → SameSeals start old.metas → IsLifting old mid now t → (a b : Option (List Event)) (k l : Trace) (result : Result (Unit {0}) Fault)
    → BatchTells most (cells_of now.jobs) (placed_notes now (length now.places)) a b k l result → BatchTells most (lift_cells old.p start.versions t) (lift_notes old.p start.versions t) a b k l result
lifts_tell most old mid now none start t seals planned a b k l result told =
    subst (λ (js : List Job). BatchTells most (cells_of js) (map (λ j. note.Read j.cell) js) a b k l result)
    (planned.jobs ∙ jobs_same old.p start old.metas (lifts_picked old.p t) seals)
    (subst (λ (ns : List Note). BatchTells most (cells_of now.jobs) ns a b k l result) (none_placed now none) told)

-- ---- what stays of a planner

-- a plan of lifts leaves the stash, and what settles its jobs leaves all else
pub kept_planned : (old planned : Kept) (counter : ℕ) → planned ≡ record old { metas = planned.metas; counter = counter } → planned ≡ record old { metas = planned.metas; stash = planned.stash; counter = counter }
kept_planned old planned counter kept = kept ∙ ap (λ (s : Held). record old { metas = planned.metas; stash = s; counter = counter }) (sym (ap (λ (r : Kept). r.stash) kept))

pub kept_settled : (old planned settled : Kept) (counter : ℕ) → planned ≡ record old { metas = planned.metas; counter = counter } → settled ≡ record planned { stash = settled.stash }
    → settled ≡ record old { metas = settled.metas; stash = settled.stash; counter = counter }
kept_settled old planned settled counter kept only =
    only ∙ ap (λ (r : Kept). record r { stash = settled.stash }) kept ∙ ap (λ (m : Buckets). record old { metas = m; stash = settled.stash; counter = counter }) (sym (ap (λ (r : Kept). r.metas) only))
