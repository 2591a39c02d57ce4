-- How the batches of records follow one another.
use Rattle.std.proofs.Common.{◌≡◌, ℕ, zero, suc, ◌<◌, ◌≤◌, List, [], ◌∷◌, ◌++◌, Option, Some, None, map, drop, length, get_or, refl, sym, ◌∙◌, ap, subst, arith, append_assoc}
use Rattle.std.proofs.lemmas.List.{map-append, append-nil}
use Rattle.ob_base.specs.declared.params.Params.{Params}
use Rattle.ob_base.specs.declared.job.Job.{Job}
use Rattle.ob_base.specs.Planned.{job_at}
use Rattle.ob_store.specs.declared.event.Event.{Event}
use Rattle.ob_store.specs.declared.watch.Note.{Note}
use Rattle.ob_store.specs.Disk.{Image}
use Rattle.ob_store.specs.Calls.{Notes}
use Rattle.ob_store.specs.Lines.{Trace, Shows}
use Rattle.ob_store.proofs.Events.{none_noted, joined}
use Rattle.ob_store.proofs.Showing.{shows_none, shows_then}
use Rattle.ob_seal.specs.declared.keys.Keys.{Keys}
use Rattle.ob_tables.specs.Version.{Version}
use Rattle.ob_tables.specs.Buckets.{Buckets}
use Rattle.ob_tables.specs.declared.entry.Entry.{Entry}
use Rattle.ob_tables.specs.Content.{Content, Rows}
use Rattle.ob_ring.specs.Fetching.{after_labels}
use Rattle.ob_ring.specs.FlatTable.{FlatTable, Batch, after}
use Rattle.ob_ring.specs.Picked.{Picked, SameSeals, job_of, batch_picked}
use Rattle.ob_ring.specs.Settling.{first_fault, rows_after}
use Rattle.ob_log.specs.Logs.{BatchRecord}
use Rattle.ob_cells.specs.Jobs.{AreJobsRead}
use Rattle.ob_cells.specs.Lanes.{ReadByLanes}
use Rattle.ob_stand.specs.Carries.{Slots, AreRead}
use Rattle.ob_stand.specs.Epochs.{Read, after_batches, rows_of_batches, AreAllRead, AreFaultless}
use Rattle.ob_stand.specs.Runs.{AreRun, Plains}
use Rattle.ob_stand.specs.Table.{flat_of}
use Rattle.ob_stand.specs.Reads.{plains_in}
use Rattle.ob_stand.proofs.ReadLaws.{sealed_are_opened}
use Rattle.ob_recover.specs.Repeats.{record_places, asked_of_record, table_after_records, entries_after_records, repeated_notes, batch_cells, repeat_notes, repeat_cells, ReadInTurn, BatchIsRead, AreRepeated, RepeatsTold, BatchIsShown}

-- ---- jobs that were read

pub past : {X : Type 0} (xs : List X) (d : X) (i : ℕ) → length xs ≤ i → get_or xs i d ≡ d
past [] d i le = refl
past (x ∷ xs) d zero le = absurd (omega arith)
past (x ∷ xs) d (suc i) le = past xs d i (omega arith)

-- jobs whose results are what their cells hold were run
runs : (plain : Plains) (old new : List Job) → length new ≡ length old
    → ((i : ℕ) → i < length old → ((job_at new i).key ≡ (job_at old i).key) × ((job_at new i).result ≡ Some (plain (job_at old i).cell (job_at old i).generation (job_at old i).number)))
    → AreRun plain old new
runs plain [] [] many each = tt
runs plain [] (n ∷ ns) many each = absurd (omega arith)
runs plain (o ∷ os) [] many each = absurd (omega arith)
runs plain (o ∷ os) (n ∷ ns) many each = ((each 0 (omega arith)).0, (each 0 (omega arith)).1, runs plain os ns (omega arith) (λ i lt. each (suc i) (omega arith)))

pub jobs_run : (keys : Keys) (image : Image) (old new : List Job) → AreJobsRead keys image old new → AreRun (plains_in keys image) old new
jobs_run keys image old new was = runs (plains_in keys image) old new was.filled.many (λ i lt.
    let is = was.filled.each i lt in
    let spelled = was.spelled i lt in
    let old_job : Job = job_at old i in
    (ap (λ (j : Job). j.key) is, ap (λ (j : Job). j.result) is ∙ ap Some (sym (sealed_are_opened keys image old_job.cell old_job.generation old_job.number (was.plain i) spelled.whole spelled.spelled))))

-- a version's jobs are the same while it stays as it is sealed
pub jobs_same : (p : Params) (start now : Buckets) (qs : List Picked) → SameSeals start now → map (job_of p now.versions) qs ≡ map (job_of p start.versions) qs
jobs_same p start now [] seals = refl
jobs_same p start now (q ∷ qs) seals =
    let rest : map (job_of p now.versions) qs ≡ map (job_of p start.versions) qs = jobs_same p start now qs seals in
    let homes = seals.homes q.bucket in
    let generations = seals.generations q.bucket in
    let bases = seals.bases q.bucket in
    let ranks = seals.ranks q.bucket in
    let here : job_of p now.versions q ≡ job_of p start.versions q = cc in
    cc

-- ---- one record more

pub table_more : (p : Params) (t : FlatTable) (rs : List BatchRecord) (r : BatchRecord) → table_after_records p t (rs ++ r ∷ []) ≡ after p (table_after_records p t rs) (Batch (asked_of_record p r))
table_more p t [] r = refl
table_more p t (x ∷ rs) r = table_more p (after p t (Batch (asked_of_record p x))) rs r

pub entries_more : (p : Params) (entries : ℕ → Option Entry) (rs : List BatchRecord) (r : BatchRecord) → entries_after_records p entries (rs ++ r ∷ []) ≡ after_labels (entries_after_records p entries rs) (record_places p r)
entries_more p entries [] r = refl
entries_more p entries (x ∷ rs) r = entries_more p (after_labels entries (record_places p x)) rs r

pub notes_more : (p : Params) (versions : List Version) (t : FlatTable) (rs : List BatchRecord) (r : BatchRecord)
    → repeat_notes p versions t (rs ++ r ∷ []) ≡ repeat_notes p versions t rs ++ repeated_notes p versions (table_after_records p t rs) (asked_of_record p r)
notes_more p versions t [] r = append-nil (repeated_notes p versions t (asked_of_record p r))
notes_more p versions t (x ∷ rs) r =
    ap (λ (ns : List Note). repeated_notes p versions t (asked_of_record p x) ++ ns) (notes_more p versions (after p t (Batch (asked_of_record p x))) rs r)
    ∙ sym (append_assoc (repeated_notes p versions t (asked_of_record p x)) (repeat_notes p versions (after p t (Batch (asked_of_record p x))) rs) (repeated_notes p versions (table_after_records p (after p t (Batch (asked_of_record p x))) rs) (asked_of_record p r)))

pub cells_more : (p : Params) (versions : List Version) (t : FlatTable) (rs : List BatchRecord) (r : BatchRecord)
    → repeat_cells p versions t (rs ++ r ∷ []) ≡ repeat_cells p versions t rs ++ batch_cells p versions (table_after_records p t rs) (asked_of_record p r) ∷ []
cells_more p versions t [] r = refl
cells_more p versions t (x ∷ rs) r = ap (λ (cs : List (List ℕ)). batch_cells p versions t (asked_of_record p x) ∷ cs) (cells_more p versions (after p t (Batch (asked_of_record p x))) rs r)

-- reads of one batch behind others
behind : (most : ℕ) (cells : List ℕ) (a b c : Option (List Event)) → Notes [] a b → ReadByLanes most cells b c → ReadByLanes most cells a c
behind most cells a b c none read = record { lanes = read.lanes; few = read.few; lane_of = read.lane_of; within = read.within; seen = joined [] _ a b c none read.seen }

turns_more : (most : ℕ) (xs : List (List ℕ)) (cells : List ℕ) (a b c : Option (List Event)) → ReadInTurn most xs a b → ReadByLanes most cells b c → ReadInTurn most (xs ++ cells ∷ []) a c
turns_more most [] cells a b c none read = (c, behind most cells a b c none read, none_noted c)
turns_more most (x ∷ xs) cells a b c (mid, first, rest) read = (mid, first, turns_more most xs cells mid b c rest read)

module _ (most : ℕ) (p : Params) (c : Content) where
  pub told_none : (seen : Option (List Event)) (shown : Trace) → RepeatsTold most p c [] seen seen shown shown
  told_none seen shown = record { seen = none_noted seen; shows = shows_none shown }

  pub told_more : (rs : List BatchRecord) (r : BatchRecord) (x y z : Option (List Event)) (k l m : Trace) → RepeatsTold most p c rs x y k l
      → BatchIsShown most (batch_cells p c.versions (table_after_records p (flat_of p c) rs) (asked_of_record p r)) (repeated_notes p c.versions (table_after_records p (flat_of p c) rs) (asked_of_record p r)) y z l m
      → RepeatsTold most p c (rs ++ r ∷ []) x z k m
  told_more rs r x y z k l m told more = record {
    seen = subst (λ (cs : List (List ℕ)). ReadInTurn most cs x z) (sym (cells_more p c.versions (flat_of p c) rs r)) (turns_more most (repeat_cells p c.versions (flat_of p c) rs) (batch_cells p c.versions (table_after_records p (flat_of p c) rs) (asked_of_record p r)) x y z told.seen more.0);
    shows = subst (λ (ns : List Note). Shows ns k m) (sym (notes_more p c.versions (flat_of p c) rs r)) (shows_then (repeat_notes p c.versions (flat_of p c) rs) (repeated_notes p c.versions (table_after_records p (flat_of p c) rs) (asked_of_record p r)) k l m told.shows more.1);
  }

  -- and nothing more
  turns_still : (xs : List (List ℕ)) (a b d : Option (List Event)) → ReadInTurn most xs a b → Notes [] b d → ReadInTurn most xs a d
  turns_still [] a b d none more = joined [] [] a b d none more
  turns_still (x ∷ xs) a b d (mid, first, rest) more = (mid, first, turns_still xs mid b d rest more)

  pub told_still : (rs : List BatchRecord) (x y z : Option (List Event)) (k l m : Trace) → RepeatsTold most p c rs x y k l → Notes [] y z → Shows [] l m → RepeatsTold most p c rs x z k m
  told_still rs x y z k l m told none shows = record {
    seen = turns_still (repeat_cells p c.versions (flat_of p c) rs) x y z told.seen none;
    shows = subst (λ (ns : List Note). Shows ns k m) (append-nil (repeat_notes p c.versions (flat_of p c) rs)) (shows_then (repeat_notes p c.versions (flat_of p c) rs) [] k l m told.shows shows);
  }

-- ---- what was read

module _ (p : Params) (slots : Slots) where
  pub repeated_none : (t : FlatTable) (rows : Rows) → AreRepeated p slots t rows rows []
  repeated_none t rows = record { batches = []; asked = refl; read = tt; faultless = tt; rows_are = refl }

  pub tables_are : (t : FlatTable) (bs : List Read) (rs : List BatchRecord) → map (λ b. b.0) bs ≡ map (asked_of_record p) rs → after_batches p t bs ≡ table_after_records p t rs
  tables_are t [] [] same = refl
  tables_are t [] (r ∷ rs) same = absurd (let e : 0 ≡ suc (length (map (asked_of_record p) rs)) = ap length same in omega arith)
  tables_are t (b ∷ bs) [] same = absurd (let e : suc (length (map (λ (x : Read). x.0) bs)) ≡ 0 = ap length same in omega arith)
  tables_are t (b ∷ bs) (r ∷ rs) same =
      let head : b.0 ≡ asked_of_record p r = ap (λ (l : List (List (Option ℕ × ℕ))). get_or l 0 []) same in
      let tail : map (λ (x : Read). x.0) bs ≡ map (asked_of_record p) rs = ap (λ (l : List (List (Option ℕ × ℕ))). drop 1 l) same in
      ap (λ (a : List (Option ℕ × ℕ)). after_batches p (after p t (Batch a)) bs) head ∙ tables_are (after p t (Batch (asked_of_record p r))) bs rs tail

  read_more : (t : FlatTable) (bs : List Read) (b : Read) → AreAllRead p slots t bs → AreRead slots (batch_picked p (after_batches p t bs) b.0) b.1 → AreAllRead p slots t (bs ++ b ∷ [])
  read_more t [] b all last = (last, tt)
  read_more t (x ∷ bs) b all last = (all.0, read_more (after p t (Batch x.0)) bs b all.1 last)

  faultless_more : (bs : List Read) (b : Read) → AreFaultless bs → first_fault b.1 ≡ None → AreFaultless (bs ++ b ∷ [])
  faultless_more [] b all last = (last, tt)
  faultless_more (x ∷ bs) b all last = (all.0, faultless_more bs b all.1 last)

  rows_more : (rows : Rows) (bs : List Read) (b : Read) → rows_of_batches rows (bs ++ b ∷ []) ≡ rows_after (rows_of_batches rows bs) b.1
  rows_more rows [] b = refl
  rows_more rows (x ∷ bs) b = rows_more (rows_after rows x.1) bs b

  pub repeated_more : (t : FlatTable) (rows mid rows' : Rows) (rs : List BatchRecord) (r : BatchRecord) → AreRepeated p slots t rows mid rs → BatchIsRead p slots (table_after_records p t rs) r mid rows' → AreRepeated p slots t rows rows' (rs ++ r ∷ [])
  repeated_more t rows mid rows' rs r all last =
      let b : Read = (asked_of_record p r, last.jobs) in
      record {
        batches = all.batches ++ b ∷ [];
        asked = map-append (λ (x : Read). x.0) all.batches (b ∷ []) ∙ ap (λ (l : List (List (Option ℕ × ℕ))). l ++ asked_of_record p r ∷ []) all.asked ∙ sym (map-append (asked_of_record p) rs (r ∷ []));
        read = read_more t all.batches b all.read (subst (λ (u : FlatTable). AreRead slots (batch_picked p u (asked_of_record p r)) last.jobs) (sym (tables_are t all.batches rs all.asked)) last.read);
        faultless = faultless_more all.batches b all.faultless last.faultless;
        rows_are = last.rows_are ∙ ap (λ (m : Rows). rows_after m last.jobs) all.rows_are ∙ sym (rows_more rows all.batches b);
      }
