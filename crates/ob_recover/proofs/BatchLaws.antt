-- One batch of a record: what its call answers and tells.
use Rattle.std.proofs.Common.{◌≡◌, inl, inr, ℕ, zero, suc, ◌+◌, ◌<◌, ◌≤◌, List, [], ◌∷◌, Option, Some, None, Result, Ok, Err, map, length, refl, sym, ◌∙◌, ap, subst, arith}
use Rattle.std.proofs.lemmas.Bool.{cases_lt}
use Rattle.std.specs.Prelude.{IfSome}
use Rattle.std.specs.List.{range_with_len}
use Rattle.ob_base.specs.declared.params.Params.{Params}
use Rattle.ob_base.specs.declared.job.Job.{Job}
use Rattle.ob_base.specs.declared.fault.Damaged.{Damaged as Damage}
use Rattle.ob_base.specs.declared.fault.Fault.{Fault}
use Rattle.ob_base.specs.declared.fault.Fault.TheVariants.{Memory, Usage, BadScript, BadParams, NotStore, Damaged, StoreFault, StashFull, Worn, SourceFault, SinkFault}
use Rattle.ob_base.specs.Planned.{Planned, job_at, most_jobs}
use Rattle.ob_store.specs.declared.event.Event.{Event}
use Rattle.ob_store.specs.declared.watch.Note.{Note}
use Rattle.ob_store.specs.Disk.{Image}
use Rattle.ob_store.specs.Calls.{Notes}
use Rattle.ob_store.specs.Lines.{Trace, Shows}
use Rattle.ob_seal.specs.declared.keys.Keys.{Keys}
use Rattle.ob_tables.specs.Buckets.{Buckets}
use Rattle.ob_tables.specs.Version.{Version}
use Rattle.ob_tables.specs.Content.{Rows}
use Rattle.ob_ring.specs.FlatTable.{FlatTable}
use Rattle.ob_ring.specs.Picked.{Picked, SameSeals, job_of, batch_picked}
use Rattle.ob_ring.specs.Ring.{IsBatch, Kept, StandsFor}
use Rattle.ob_tables.specs.Kept.{Held}
use Rattle.ob_tables.specs.declared.entry.Entry.{Entry}
use Rattle.ob_ring.specs.Settling.{first_fault, rows_after}
use Rattle.ob_log.specs.Logs.{BatchRecord}
use Rattle.ob_cells.specs.Jobs as jobs
use Rattle.ob_cells.specs.Jobs.{AreFilled, AreJobsRead, AreKept, AreSeen, IsFirstFailing, cells_of}
use Rattle.ob_cells.specs.declared.error.JobsErr.{JobsErr}
use Rattle.ob_stand.proofs.Calling.{plans_are_read}
use Rattle.ob_stand.specs.Reads.{plains_in}
use Rattle.ob_recover.specs.Repeats.{record_of, record_places, asked_of_record, batch_cells, batch_jobs, repeated_notes, BatchAnswers, BatchIsShown, BatchTells, HaveKeysOf, IsRepeatFault, JobsAnswer, RowsJoin}
use Rattle.ob_recover.specs.Shows.{placed_notes}
use Rattle.ob_recover.proofs.FewLaws.{jobs_few}
use Rattle.ob_recover.proofs.ShowLaws.{batch_shows}
use Rattle.ob_recover.proofs.RepeatLaws.{jobs_run, jobs_same, past}

-- ---- jobs

no_job : Job
no_job = record { cell = 0; generation = 0; number = 0; key = None; result = None }

filled_keys : (old new : List Job) (plain : ℕ → List ℕ) → AreFilled old new plain → HaveKeysOf old new
filled_keys old new plain filled i = elim (cases_lt i (length old)) [
  | inl low ↦ ap (λ (j : Job). j.key) (filled.each i low)
  | inr high ↦ (let many = filled.many in
      ap (λ (j : Job). j.key) (past new (record { cell = 0; generation = 0; number = 0; key = None; result = None }) i (omega arith)) ∙ sym (ap (λ (j : Job). j.key) (past old (record { cell = 0; generation = 0; number = 0; key = None; result = None }) i high)))
]

pub kept_keys : (old new : List Job) (r : Result (Unit {0}) JobsErr) → AreKept old new r → HaveKeysOf old new
kept_keys old new (Ok done) kept = filled_keys old new kept.0 kept.1
kept_keys old new (Err e) kept = λ i. ap (λ (js : List Job). (job_at js i).key) kept

-- the same keys, one behind the other
filled_in_order : (old new : List Job) (plain : ℕ → List ℕ) → AreFilled old new plain → map (λ j. j.key) new ≡ map (λ j. j.key) old
filled_in_order [] [] plain filled = refl
filled_in_order [] (n ∷ new) plain filled = absurd (let many = filled.many in omega arith)
filled_in_order (o ∷ old) [] plain filled = absurd (let many = filled.many in omega arith)
filled_in_order (o ∷ old) (n ∷ new) plain filled =
    let first : n ≡ record o { result = Some (plain 0) } = filled.each 0 (omega arith) in
    let rest : AreFilled old new (λ i. plain (suc i)) = record { many = (let many = filled.many in omega arith); each = λ i lt. filled.each (suc i) (omega arith) } in
    λ i. (first i).key ∷ filled_in_order old new (λ j. plain (suc j)) rest i

picked_keys : (p : Params) (versions : List Version) (qs : List Picked) → map (λ j. j.key) (map (job_of p versions) qs) ≡ map (λ q. q.key) qs
picked_keys p versions [] = refl
picked_keys p versions (q ∷ qs) = ap (λ (ks : List (Option ℕ)). q.key ∷ ks) (picked_keys p versions qs)

-- what was read of planned jobs joined the rows
pub rows_join : (p : Params) (versions : List Version) (picked : List Picked) (now js : List Job) (plain : ℕ → List ℕ) (rows rows' : Rows) → now ≡ map (job_of p versions) picked → AreFilled now js plain → first_fault js ≡ None → rows' ≡ rows_after rows js → RowsJoin picked rows rows'
rows_join p versions picked now js plain rows rows' planned filled faultless rows_are = record {
  jobs = js;
  keys = filled_in_order now js plain filled ∙ ap (λ (xs : List Job). map (λ j. j.key) xs) planned ∙ picked_keys p versions picked;
  read = λ i lt none.
      let low : i < length now = (let many = filled.many in omega arith) in
      let some : Some (plain i) ≡ None = sym (ap (λ (j : Job). j.result) (filled.each i low)) ∙ none in
      cc;
  faultless = faultless;
  rows_are = rows_are;
}

-- keys below a number stay so
pub keys_low : (n : ℕ) (old new : List Job) → HaveKeysOf old new → ((i : ℕ) → IfSome (job_at old i).key (λ k. k < n)) → (i : ℕ) → IfSome (job_at new i).key (λ k. k < n)
keys_low n old new same low i = subst (λ (key : Option ℕ). IfSome key (λ k. k < n)) (sym (same i)) (low i)

-- the kind of a failing job's fault
pub job_fault : (f : Fault) → jobs.IsReadFault f → IsRepeatFault f
job_fault Memory fault = absurd fault
job_fault Usage fault = absurd fault
job_fault (BadScript line) fault = absurd fault
job_fault (BadParams field) fault = absurd fault
job_fault NotStore fault = absurd fault
job_fault (Damaged cell check kept computed) fault = tt
job_fault (StoreFault unsure) fault = fault
job_fault (StashFull rows) fault = absurd fault
job_fault (Worn number) fault = absurd fault
job_fault SourceFault fault = absurd fault
job_fault SinkFault fault = absurd fault

-- what the jobs answer, where one of them fails,
pub failing_answer : (keys : Keys) (image : Image) (old new : List Job) (f : Fault) → jobs.IsReadFault f → IsFirstFailing keys image old f → JobsAnswer keys image old new (Err f)
failing_answer keys image old new Memory fault failing = absurd fault
failing_answer keys image old new Usage fault failing = absurd fault
failing_answer keys image old new (BadScript line) fault failing = absurd fault
failing_answer keys image old new (BadParams field) fault failing = absurd fault
failing_answer keys image old new NotStore fault failing = absurd fault
failing_answer keys image old new (Damaged cell check kept computed) fault failing = failing
failing_answer keys image old new (StoreFault unsure) fault failing = tt
failing_answer keys image old new (StashFull rows) fault failing = absurd fault
failing_answer keys image old new (Worn number) fault failing = absurd fault
failing_answer keys image old new SourceFault fault failing = absurd fault
failing_answer keys image old new SinkFault fault failing = absurd fault

-- or a lane was refused
pub refused_answer : (keys : Keys) (image : Image) (old new : List Job) (f : Fault) → f ≡ StoreFault None → JobsAnswer keys image old new (Err f)
refused_answer keys image old new f is = subst (λ (e : Fault). JobsAnswer keys image old new (Err e)) (sym is) tt

pub refused_fault : (f : Fault) → f ≡ StoreFault None → IsRepeatFault f
refused_fault f is = subst IsRepeatFault (sym is) refl

-- ---- what is told

module _ (most : ℕ) (cells : List ℕ) (notes : List Note) (a b : Option (List Event)) (k l : Trace) where
  -- all was read and shown, and a job failed
  pub failing_tells : (f : Fault) → jobs.IsReadFault f → BatchIsShown most cells notes a b k l → BatchTells most cells notes a b k l (Err f)
  failing_tells Memory fault all = absurd fault
  failing_tells Usage fault all = absurd fault
  failing_tells (BadScript line) fault all = absurd fault
  failing_tells (BadParams field) fault all = absurd fault
  failing_tells NotStore fault all = absurd fault
  failing_tells (Damaged cell check kept computed) fault all = all
  failing_tells (StoreFault unsure) fault all = inl all
  failing_tells (StashFull rows) fault all = absurd fault
  failing_tells (Worn number) fault all = absurd fault
  failing_tells SourceFault fault all = absurd fault
  failing_tells SinkFault fault all = absurd fault

  -- a lane was refused
  pub refused_tells : (f : Fault) → f ≡ StoreFault None → Notes [] a b → Shows [] k l → BatchTells most cells notes a b k l (Err f)
  refused_tells f is none shows = subst (λ (e : Fault). BatchTells most cells notes a b k l (Err e)) (sym is) (inr (none, shows))

-- ---- a planned batch that was read

module _ (keys : Keys) (image : Image) (old mid : Kept) (r : BatchRecord) (now : Planned) (js : List Job) (start : Buckets) (t : FlatTable) (seals : SameSeals start old.metas)
    (planned : IsBatch old mid now (record_places old.p r) t) where
  jobs_are : now.jobs ≡ batch_jobs old.p start.versions t (asked_of_record old.p r)
  jobs_are = planned.jobs ∙ jobs_same old.p start old.metas (batch_picked old.p t (asked_of_record old.p r)) seals

  -- and settled
  pub settled_well : (rows rows' : Rows) → AreJobsRead keys image now.jobs js → first_fault js ≡ None → rows' ≡ rows_after rows js → BatchAnswers keys old.p start.versions image t r rows rows' (Ok tt)
  settled_well rows rows' read faultless rows_are = record {
    jobs = js;
    read = plans_are_read.batch old mid now (record_places old.p r) t start (plains_in keys image) js seals planned (jobs_run keys image now.jobs js read);
    faultless = faultless;
    rows_are = rows_are;
  }

  -- or a row broke its form
  pub settled_badly : (rows rows' : Rows) (d : Damage) → AreJobsRead keys image now.jobs js → first_fault js ≡ Some d → BatchAnswers keys old.p start.versions image t r rows rows' (Err (Damaged d.cell d.check d.kept d.computed))
  settled_badly rows rows' d read first = inr (record {
    jobs = js;
    read = plans_are_read.batch old mid now (record_places old.p r) t start (plains_in keys image) js seals planned (jobs_run keys image now.jobs js read);
    first = first;
  })

  -- or a job failed
  pub not_settled : (rows rows' : Rows) (f : Fault) → IsRepeatFault f → JobsAnswer keys image now.jobs js (Err f) → BatchAnswers keys old.p start.versions image t r rows rows' (Err f)
  not_settled rows rows' Memory fault answer = absurd fault
  not_settled rows rows' Usage fault answer = absurd fault
  not_settled rows rows' (BadScript line) fault answer = absurd fault
  not_settled rows rows' (BadParams field) fault answer = absurd fault
  not_settled rows rows' NotStore fault answer = absurd fault
  not_settled rows rows' (Damaged cell check kept computed) fault answer = inl (subst (λ (xs : List Job). IsFirstFailing keys image xs (Damaged cell check kept computed)) jobs_are answer)
  not_settled rows rows' (StoreFault unsure) fault answer = tt
  not_settled rows rows' (StashFull full) fault answer = absurd fault
  not_settled rows rows' (Worn number) fault answer = absurd fault
  not_settled rows rows' SourceFault fault answer = absurd fault
  not_settled rows rows' SinkFault fault answer = absurd fault

-- ---- a planned batch

length-map : {X Y : Type 0} (f : X → Y) (xs : List X) → length (map f xs) ≡ length xs
length-map f [] = refl
length-map f (x ∷ xs) = ap suc (length-map f xs)

length-range : (a n : ℕ) → length (range_with_len a n) ≡ n
length-range a zero = refl
length-range a (suc n) = ap suc (length-range (a + 1) n)

asked_many : (p : Params) (r : BatchRecord) → length (asked_of_record p r) ≡ length r.asks
asked_many p r = length-map _ (record_places p r) ∙ length-map _ (range_with_len 0 (length r.asks)) ∙ length-range 0 (length r.asks)

-- there is room for its jobs
pub batch_few : (p : Params) (t : FlatTable) (r : BatchRecord) (versions : List Version) (js : List Job) → length r.asks ≡ p.places → js ≡ map (job_of p versions) (batch_picked p t (asked_of_record p r)) → length js ≤ most_jobs p
batch_few p t r versions js many is =
    let long : length js ≡ length (batch_picked p t (asked_of_record p r)) = ap length is ∙ length-map (job_of p versions) (batch_picked p t (asked_of_record p r)) in
    let few = jobs_few p t (asked_of_record p r) (asked_many p r ∙ many) in
    omega arith

-- what is told of it is that of the table's batch
module _ (most : ℕ) (old mid : Kept) (r : BatchRecord) (now : Planned) (start : Buckets) (t : FlatTable) (seals : SameSeals start old.metas)
    (planned : IsBatch old mid now (record_places old.p r) t) (a b : Option (List Event)) (k l : Trace) where
  planned_jobs : now.jobs ≡ batch_jobs old.p start.versions t (asked_of_record old.p r)
  planned_jobs = planned.jobs ∙ jobs_same old.p start old.metas (batch_picked old.p t (asked_of_record old.p r)) seals

  pub batch_tells : (result : Result (Unit {0}) Fault) → BatchTells most (cells_of now.jobs) (placed_notes now (length now.places)) a b k l result
      → BatchTells most (batch_cells old.p start.versions t (asked_of_record old.p r)) (repeated_notes old.p start.versions t (asked_of_record old.p r)) a b k l result
  batch_tells result told =
      subst (λ (ns : List Note). BatchTells most (batch_cells old.p start.versions t (asked_of_record old.p r)) ns a b k l result) (batch_shows old.p start.versions t (asked_of_record old.p r) now planned_jobs planned.places)
      (subst (λ (js : List Job). BatchTells most (cells_of js) (placed_notes now (length now.places)) a b k l result) planned_jobs told)

-- ---- the same planner, and the same record

-- another stash changes no table
pub stands_kept : (r r' : Kept) (stash : Held) → r' ≡ record r { stash = stash } → (t : FlatTable) → StandsFor r t → StandsFor r' t
stands_kept r r' stash is t stands = subst (λ (x : Kept). StandsFor x t) (sym is) (record { orderly = stands.orderly; arrays = stands.arrays })

-- a plan leaves the stash, and what settles its jobs leaves all else
pub kept_planned : (old planned : Kept) → planned ≡ record old { book = planned.book; metas = planned.metas } → planned ≡ record old { book = planned.book; metas = planned.metas; stash = planned.stash }
kept_planned old planned kept = kept ∙ ap (λ (s : Held). record old { book = planned.book; metas = planned.metas; stash = s }) (sym (ap (λ (r : Kept). r.stash) kept))

pub kept_settled : (old planned settled : Kept) → planned ≡ record old { book = planned.book; metas = planned.metas } → settled ≡ record planned { stash = settled.stash }
    → settled ≡ record old { book = settled.book; metas = settled.metas; stash = settled.stash }
kept_settled old planned settled kept only =
    only ∙ ap (λ (r : Kept). record r { stash = settled.stash }) kept
    ∙ ap (λ (b : List (Option Entry)). record old { book = b; metas = planned.metas; stash = settled.stash }) (sym (ap (λ (r : Kept). r.book) only))
    ∙ ap (λ (m : Buckets). record old { book = settled.book; metas = m; stash = settled.stash }) (sym (ap (λ (r : Kept). r.metas) only))

-- a record is that of its parts
pub record_is : (r : BatchRecord) (generation first : ℕ) (asks : List (Option ℕ)) (words : List ℕ) → generation ≡ r.generation → first ≡ r.first → asks ≡ r.asks → words ≡ r.words
    → record_of r.batch r.number generation first asks words ≡ r
record_is r generation first asks words gs fs is ws =
    ap (λ (g : ℕ). record_of r.batch r.number g first asks words) gs ∙ ap (λ (f : ℕ). record_of r.batch r.number r.generation f asks words) fs
    ∙ ap (λ (xs : List (Option ℕ)). record_of r.batch r.number r.generation r.first xs words) is ∙ ap (λ (xs : List ℕ). record_of r.batch r.number r.generation r.first r.asks xs) ws
