-- The next batch of a run, where the store stands.
use Rattle.std.proofs.Common.{◌≡◌, ℕ, suc, ◌+◌, ◌%◌, ◌<◌, ◌≤◌, List, [], ◌∷◌, ◌++◌, Option, Ok, Err, length, length-append, refl, sym, ap, ◌∙◌, subst, arith}
use mathlib.Core.Path.{fun_ext}
use Rattle.ob_base.specs.Layout.{log_cell, record_cells}
use Rattle.ob_base.specs.declared.fault.Damaged.{Damaged as Damage}
use Rattle.ob_base.specs.declared.fault.Fault.{Fault}
use Rattle.ob_base.specs.declared.fault.Fault.TheVariants.{Memory, Usage, BadScript, BadParams, NotStore, Damaged, StoreFault, StashFull, Worn, SourceFault, SinkFault}
use Rattle.ob_base.specs.declared.params.Params.{Params}
use Rattle.ob_tables.specs.Buckets.{Buckets}
use Rattle.ob_tables.specs.Content.{Content, Rows}
use Rattle.ob_stand.specs.Table.{buckets_of, flat_of}
use Rattle.ob_log.specs.Appends.{HoldsRecord}
use Rattle.ob_log.specs.Logs.{BatchRecord, RecordObeys}
use Rattle.ob_recover.proofs.RepeatLaws.{entries_more, repeated_more, table_more}
use Rattle.ob_recover.proofs.StandingReads.{map_kept, none_damaged}
use Rattle.ob_recover.specs.Repeats.{AreRepeated, BatchIsRead, IsBatchDamage, IsPlannerOf, IsRepeatFault, asked_of_record, record_places, table_after_records}
use Rattle.ob_ring.specs.Fetching.{after_labels}
use Rattle.ob_ring.specs.FlatTable.{Batch, FlatTable, after}
use Rattle.ob_ring.specs.Laws.{IsOrderly}
use Rattle.ob_ring.specs.Picked.{SameSeals}
use Rattle.ob_ring.specs.Ring.{Kept, StandsFor}
use Rattle.ob_seal.specs.declared.keys.Keys.{Keys}
use Rattle.ob_stand.proofs.AppendLaws.{append_stands}
use Rattle.ob_stand.specs.Appends.{MayAppend, SameButBatch}
use Rattle.ob_stand.specs.Reads.{slots_in}
use Rattle.ob_stand.specs.Stands.{RingStanding, Stands, with_record}
use Rattle.ob_store.specs.Disk.{Disk, Image}
use Rattle.ob_store.specs.Images.{SameOff}
use Rattle.ob_tables.specs.Kept.{entry_at}
use Rattle.ob_tables.specs.declared.entry.Entry.{Entry}
use Rattle.ob_stand.specs.Carries.{Carries, Slots}
use Rattle.ob_fetch.proofs.AnswerLaws.{answered}
use Rattle.ob_fetch.proofs.LogLaws.{open_more, slots_kept}
use Rattle.ob_fetch.specs.Fetches.{AreMapValues, FetchAnswers, FetchStands, RunIsAt, MovesPlanner, RunsAt, values_asked, next_batch, unlisted}
use Rattle.ob_fetch.specs.declared.run.Run.{Run}

-- buckets that are sealed as these, behind those
seals_join : (a b c : Buckets) → SameSeals a b → b.order ≡ [] → SameSeals (record b { order = [] }) c → SameSeals a c
seals_join a b c s none then = record {
  homes = λ u. then.homes u ∙ s.homes u;
  generations = λ u. then.generations u ∙ s.generations u;
  bases = λ u. then.bases u ∙ s.bases u;
  ranks = λ u. then.ranks u ∙ s.ranks u;
  order = then.order ∙ sym none ∙ s.order;
}

-- the planner one batch further
pub follows_more : (p : Params) (c : Content) (rs : List BatchRecord) (r : BatchRecord) (ring ring' : Kept) → IsPlannerOf p c rs ring → MovesPlanner p r ring ring' → IsPlannerOf p c (rs ++ r ∷ []) ring'
follows_more p c rs r ring ring' was moves = record {
  params = ap (λ (k : Kept). k.p) moves.kept ∙ was.params;
  table = subst (λ (t : FlatTable). StandsFor ring' t) (sym (table_more p (flat_of p c) rs r)) (moves.table (table_after_records p (flat_of p c) rs) was.table);
  entries = λ k.
      moves.entries k ∙ ap (λ (e : ℕ → Option Entry). after_labels e (record_places p r) k) (fun_ext was.entries)
      ∙ ap (λ (e : ℕ → Option Entry). e k) (sym (entries_more p (λ i. entry_at c.book i) rs r));
  seals = seals_join (buckets_of p c) ring.metas ring'.metas was.seals was.seals.order moves.seals;
  counter = ap (λ (k : Kept). k.counter) moves.kept ∙ was.counter;
  room = moves.room ∙ was.room;
}

-- ---- with no bucket listed

pub seals_listed : (start : Buckets) (ring : Kept) → SameSeals start (unlisted ring).metas → SameSeals (record start { order = (ring.metas).order }) ring.metas
seals_listed start ring s = record { homes = s.homes; generations = s.generations; bases = s.bases; ranks = s.ranks; order = refl }

pub stands_listed : (ring : Kept) (t : FlatTable) → StandsFor (unlisted ring) t → StandsFor ring t
stands_listed ring t s = record { orderly = s.orderly; arrays = s.arrays }

pub stands_unlisted : (ring : Kept) (t : FlatTable) → StandsFor ring t → StandsFor (unlisted ring) t
stands_unlisted ring t s = record { orderly = s.orderly; arrays = s.arrays }

pub moves_unlisted : (p : Params) (r : BatchRecord) (ring ring' : Kept) → MovesPlanner p r ring ring' → MovesPlanner p r (unlisted ring) (unlisted ring')
moves_unlisted p r ring ring' moves = record {
  kept = ap unlisted moves.kept;
  room = moves.room;
  entries = moves.entries;
  seals = record { homes = (moves.seals).homes; generations = (moves.seals).generations; bases = (moves.seals).bases; ranks = (moves.seals).ranks; order = refl };
  table = λ t stands. stands_unlisted ring' (after p t (Batch (asked_of_record p r))) (moves.table t (stands_listed ring t stands));
}

-- ---- what stands

module _ (keys : Keys) (p : Params) (s : RingStanding) (r : BatchRecord) (was now : Image) (stands : Stands keys p s was)
    (room : length s.records < p.batches) (known : r.generation ≤ s.generation) (obeys : RecordObeys p (length s.records) r)
    (same : SameButBatch p s now was) (holds : HoldsRecord keys p (suc s.epoch) (length s.records) r now) where
  pub stands_next : Stands keys p (with_record s r) now
  stands_next = (append_stands keys p s r now was (record { room = room; known = known }) same stands).new (open_more keys p (suc s.epoch) s.records r room obeys now was same holds stands.holds.log)

  slots_same : slots_in keys p s.content now ≡ slots_in keys p s.content was
  slots_same = slots_kept keys p s.content (suc s.epoch % 2) (length s.records) now was (omega arith) room same

  module _ (rows : Rows) (read : AreRepeated p (slots_in keys p s.content was) (flat_of p s.content) (s.content).rows rows s.records) where
    abbrev t : FlatTable
    t = table_after_records p (flat_of p s.content) s.records

    abbrev slots : Slots
    slots = slots_in keys p s.content now

    read_now : AreRepeated p slots (flat_of p s.content) (s.content).rows rows s.records
    read_now = subst (λ (sl : Slots). AreRepeated p sl (flat_of p s.content) (s.content).rows rows s.records) (sym slots_same) read

    pub read_next : (rows' : Rows) → BatchIsRead p slots t r rows rows' → AreRepeated p slots (flat_of p s.content) (s.content).rows rows' (s.records ++ r ∷ [])
    read_next rows' last = repeated_more p slots (flat_of p s.content) (s.content).rows rows rows' s.records r read_now last

    pub none_damaged_next : (d : Damage) → IsBatchDamage keys p (s.content).versions now t r d → ⊥
    none_damaged_next d damage =
        none_damaged keys p (with_record s r) now stands_next (s.records ++ r ∷ []) d
        (record { before = s.records; broken = r; rest = []; split = refl; rows = rows; read = read_now; damage = damage })

    pub answered_next : (rows' : Rows) → IsOrderly p t → BatchIsRead p slots t r rows rows' → AreMapValues s.map r.asks (values_asked rows' r.asks)
    answered_next rows' orderly last =
        answered p r t slots s.map rows rows' orderly
        (subst (λ (sl : Slots). Carries p t rows sl s.map) (sym slots_same) (map_kept keys p s was stands rows read)) last

-- ---- a run

-- What is told of a batch that was begun: its record, and the cells that may have changed.
pub record Begun (run : Run) (r : BatchRecord) (old new : Disk) : Type 0 where
  pub some : 0 < run.left
  pub few : run.left ≤ (run.params).batches
  pub is : r.generation ≡ (run.sealer).generation
  pub obeys : RecordObeys run.params (next_batch run) r
  pub within : SameOff (log_cell run.params (suc run.epoch % 2) (next_batch run) 0) (record_cells run.params + 1) new.cells old.cells

module _ (run : Run) (s : RingStanding) (r : BatchRecord) (old new : Disk) (was : RunIsAt run s old) (begun : Begun run r old new) where
  abbrev p : Params
  p = run.params

  abbrev keys : Keys
  keys = (run.sealer).keys

  pub batch_is : next_batch run ≡ length s.records
  batch_is = (let left = was.runs.left_are in let few = begun.few in omega arith)

  pub at_batch : (P : ℕ → ℕ → Type 0) → P (suc run.epoch) (next_batch run) → P (suc s.epoch) (length s.records)
  at_batch P here = subst (λ b. P (suc s.epoch) b) batch_is (subst (λ e. P (suc e) (next_batch run)) was.runs.epoch_is here)

  pub may : MayAppend p s r
  may = record {
    room = (let left = was.runs.left_are in let some = begun.some in omega arith);
    known = (let is = begun.is ∙ was.runs.generation_is in omega arith);
  }

  obeys : RecordObeys p (length s.records) r
  obeys = at_batch (λ e b. RecordObeys p b r) begun.obeys

  same : SameButBatch p s new.cells old.cells
  same = at_batch (λ e b. SameOff (log_cell p (e % 2) b 0) (record_cells p + 1) new.cells old.cells) begun.within

  abbrev table : FlatTable
  table = table_after_records p (flat_of p s.content) s.records

  module _ (written : HoldsRecord keys p (suc run.epoch) (next_batch run) r new.cells) where
    holds : HoldsRecord keys p (suc s.epoch) (length s.records) r new.cells
    holds = at_batch (λ e b. HoldsRecord keys p e b r new.cells) written

    -- it went well
    pub runs_next : (ring' : Kept) (left' : ℕ) → left' + 1 ≡ run.left → MovesPlanner p r run.ring ring'
        → FetchAnswers keys p (s.content).versions new.cells table r ((run.ring).stash).rows (ring'.stash).rows (Ok tt) → RunsAt keys p run.epoch (run.sealer).generation left' ring' (with_record s r) new.cells
    runs_next ring' left' less moves read = record {
      epoch_is = was.runs.epoch_is;
      generation_is = was.runs.generation_is;
      left_are = (let left = was.runs.left_are in let more = length-append s.records (r ∷ []) in omega arith);
      planner = follows_more p s.content s.records r (unlisted run.ring) (unlisted ring') was.runs.planner (moves_unlisted p r run.ring ring' moves);
      read = read_next keys p s r old.cells new.cells was.stands may.room may.known obeys same holds ((run.ring).stash).rows was.runs.read (ring'.stash).rows read;
    }

    pub stands_then : Stands keys p (with_record s r) new.cells
    stands_then = stands_next keys p s r old.cells new.cells was.stands may.room may.known obeys same holds

    pub answers_then : (rows' : Rows) → FetchAnswers keys p (s.content).versions new.cells table r ((run.ring).stash).rows rows' (Ok tt) → AreMapValues s.map r.asks (values_asked rows' r.asks)
    answers_then rows' read =
        answered_next keys p s r old.cells new.cells was.stands may.room may.known obeys same holds ((run.ring).stash).rows was.runs.read rows' (subst (λ (q : Params). IsOrderly q table) was.runs.planner.params was.runs.planner.table.orderly) read

    -- it was refused
    pub refused_then : (run' : Run) (out : List (Option (List ℕ))) (rows' : Rows) (f : Fault) → IsRepeatFault f
        → FetchAnswers keys p (s.content).versions new.cells table r ((run.ring).stash).rows rows' (Err f) → FetchStands s r r.asks new run' out (Err f)
    refused_then run' out rows' Memory fault answer = absurd fault
    refused_then run' out rows' Usage fault answer = absurd fault
    refused_then run' out rows' (BadScript line) fault answer = absurd fault
    refused_then run' out rows' (BadParams field) fault answer = absurd fault
    refused_then run' out rows' NotStore fault answer = absurd fault
    refused_then run' out rows' (Damaged cell check kept computed) fault answer =
        absurd (none_damaged_next keys p s r old.cells new.cells was.stands may.room may.known obeys same holds ((run.ring).stash).rows was.runs.read
        (record { cell = cell; check = check; kept = kept; computed = computed }) answer)
    refused_then run' out rows' (StoreFault unsure) fault answer = tt
    refused_then run' out rows' (StashFull full) fault answer = absurd fault
    refused_then run' out rows' (Worn number) fault answer = absurd fault
    refused_then run' out rows' SourceFault fault answer = absurd fault
    refused_then run' out rows' SinkFault fault answer = absurd fault

-- another name for the same run
pub runs_as : {keys keys' : Keys} {p p' : Params} {epoch epoch' g g' : ℕ} → keys' ≡ keys → p' ≡ p → epoch' ≡ epoch → g' ≡ g → (left : ℕ) (ring : Kept) (s : RingStanding) (image : Image)
    → RunsAt keys p epoch g left ring s image → RunsAt keys' p' epoch' g' left ring s image
runs_as {keys} {keys'} {p} {p'} {epoch} {epoch'} {g} {g'} ks ps es gs left ring s image was =
    subst (λ (k : Keys). RunsAt k p' epoch' g' left ring s image) (sym ks)
    (subst (λ (q : Params). RunsAt keys q epoch' g' left ring s image) (sym ps)
    (subst (λ (e : ℕ). RunsAt keys p e g' left ring s image) (sym es)
    (subst (λ (n : ℕ). RunsAt keys p epoch n left ring s image) (sym gs) was)))

pub stands_as : {keys keys' : Keys} {p p' : Params} → keys' ≡ keys → p' ≡ p → (s : RingStanding) (image : Image) → Stands keys p s image → Stands keys' p' s image
stands_as {keys} {keys'} {p} {p'} ks ps s image was = subst (λ (k : Keys). Stands k p' s image) (sym ks) (subst (λ (q : Params). Stands keys q s image) (sym ps) was)
