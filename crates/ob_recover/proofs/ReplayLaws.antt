-- The repeats so far, and one more.
use Rattle.std.proofs.Common.{◌≡◌, ⊎_elim, ℕ, zero, suc, ◌+◌, ◌<◌, ◌≤◌, List, [], ◌∷◌, ◌++◌, Option, Result, Ok, Err, OnOk, take, drop, length, refl, sym, ◌∙◌, ap, subst, arith}
use Rattle.std.proofs.lemmas.List.{take_all, take_more}
use mathlib.Core.Path.{fun_ext}
use Rattle.ob_base.specs.declared.params.Params.{Params}
use Rattle.ob_base.specs.declared.fault.Damaged.{Damaged as Damage}
use Rattle.ob_base.specs.declared.fault.Fault.{Fault}
use Rattle.ob_base.specs.declared.fault.Fault.TheVariants.{Memory, Usage, BadScript, BadParams, NotStore, Damaged, StoreFault, StashFull, Worn, SourceFault, SinkFault}
use Rattle.ob_store.specs.declared.event.Event.{Event}
use Rattle.ob_store.specs.declared.watch.Note.{Note}
use Rattle.ob_store.specs.Disk.{Disk, Image}
use Rattle.ob_store.specs.Calls.{Keeps}
use Rattle.ob_store.specs.Lines.{Trace}
use Rattle.ob_store.proofs.Events.{none_noted}
use Rattle.ob_store.proofs.Showing.{shows_none}
use Rattle.ob_seal.specs.declared.keys.Keys.{Keys}
use Rattle.ob_tables.specs.Buckets.{Buckets}
use Rattle.ob_tables.specs.declared.entry.Entry.{Entry}
use Rattle.ob_tables.specs.Kept.{entry_at}
use Rattle.ob_tables.specs.Content.{Content, Rows}
use Rattle.ob_ring.specs.Fetching.{after_labels}
use Rattle.ob_ring.specs.FlatTable.{FlatTable, Batch, after}
use Rattle.ob_ring.specs.Picked.{SameSeals, batch_picked}
use Rattle.ob_ring.specs.Ring.{Kept, StandsFor}
use Rattle.ob_log.specs.Logs.{BatchRecord, record_at, nothing}
use Rattle.ob_stand.specs.Table.{flat_of}
use Rattle.ob_stand.specs.Reads.{slots_in}
use Rattle.ob_recover.specs.Repeats.{record_places, asked_of_record, table_after_records, entries_after_records, repeated_notes, batch_cells, BatchAnswers, BatchTells, AllRowsJoin, AreRepeated, HasRepeated}
use Rattle.ob_recover.specs.Repeats.{IsRepeatDamage, IsRepeatFault, RepeatsTold, RowsJoin, RepeatsFirst, RepeatDoes, RepeatsAnswer, content_of_ring}
use Rattle.ob_recover.proofs.RepeatLaws.{table_more, entries_more, told_more, told_still, repeated_more}

-- ---- one batch, as its call tells it

pub record OneRepeat (keys : Keys) (q : Params) (most : ℕ) (old new : Disk) (before after_ : Trace) (ring ring' : Kept) (r : BatchRecord) (result : Result (Unit {0}) Fault) : Type 0 where
  pub params : ring'.p ≡ ring.p
  pub counter : ring'.counter ≡ ring.counter
  pub room : (ring'.stash).room ≡ (ring.stash).room
  pub entries : (k : ℕ) → entry_at ring'.book k ≡ after_labels (λ i. entry_at ring.book i) (record_places q r) k
  pub seals : SameSeals (record ring.metas { order = [] }) ring'.metas
  pub table : (t : FlatTable) → StandsFor ring t → StandsFor ring' (after q t (Batch (asked_of_record q r)))
  pub value : (start : Buckets) (t : FlatTable) → SameSeals start ring.metas → StandsFor ring t → old.tells → BatchAnswers keys q start.versions old.cells t r (ring.stash).rows (ring'.stash).rows result
  pub joins : (t : FlatTable) → StandsFor ring t → OnOk result (RowsJoin (batch_picked q t (asked_of_record q r)) (ring.stash).rows (ring'.stash).rows)
  pub told : (start : Buckets) (t : FlatTable) → SameSeals start ring.metas → StandsFor ring t
      → BatchTells most (batch_cells q start.versions t (asked_of_record q r)) (repeated_notes q start.versions t (asked_of_record q r)) old.seen new.seen before after_ result

-- of this record
pub at_record : {keys : Keys} {q : Params} {most : ℕ} {old new : Disk} {before after_ : Trace} {ring ring' : Kept} {r r' : BatchRecord} {result : Result (Unit {0}) Fault} → r ≡ r' → OneRepeat keys q most old new before after_ ring ring' r result
    → OneRepeat keys q most old new before after_ ring ring' r' result
at_record {keys} {q} {most} {old} {new} {before} {after_} {ring} {ring'} {r} {r'} {result} same one = subst (λ (x : BatchRecord). OneRepeat keys q most old new before after_ ring ring' x result) same one

-- by as many lanes
pub told_by : {m n : ℕ} → m ≡ n → (cells : List ℕ) (notes : List Note) (a b : Option (List Event)) (k l : Trace) (r : Result (Unit {0}) Fault) → BatchTells m cells notes a b k l r → BatchTells n cells notes a b k l r
told_by same cells notes a b k l r told = subst (λ (x : ℕ). BatchTells x cells notes a b k l r) same told

-- ---- the batches so far

pub record Repeating (keys : Keys) (o : Kept) (most : ℕ) (rs : List BatchRecord) (n : ℕ) (old now : Disk) (before shown : Trace) (ring : Kept) : Type 0 where
  pub params : ring.p ≡ o.p
  pub table : StandsFor ring (table_after_records o.p (flat_of o.p (content_of_ring o)) (take n rs))
  pub entries : (k : ℕ) → entry_at ring.book k ≡ entries_after_records o.p (λ i. entry_at o.book i) (take n rs) k
  pub seals : SameSeals o.metas ring.metas
  pub counter : ring.counter ≡ o.counter
  pub room : (ring.stash).room ≡ (o.stash).room
  pub read : old.tells → AreRepeated o.p (slots_in keys o.p (content_of_ring o) old.cells) (flat_of o.p (content_of_ring o)) (content_of_ring o).rows (ring.stash).rows (take n rs)
  pub joins : AllRowsJoin o.p (flat_of o.p (content_of_ring o)) (take n rs) (o.stash).rows (ring.stash).rows
  pub told : RepeatsTold most o.p (content_of_ring o) (take n rs) old.seen now.seen before shown

-- none yet
pub none_repeated : (keys : Keys) (o : Kept) (most : ℕ) (rs : List BatchRecord) (disk : Disk) (shown : Trace) → StandsFor o (flat_of o.p (content_of_ring o)) → Repeating keys o most rs zero disk disk shown shown o
none_repeated keys o most rs disk shown stands = record {
  params = refl;
  table = stands;
  entries = λ k. refl;
  seals = record { homes = λ u. refl; generations = λ u. refl; bases = λ u. refl; ranks = λ u. refl; order = refl };
  counter = refl;
  room = refl;
  read = λ tells. record { batches = []; asked = refl; read = tt; faultless = tt; rows_are = refl };
  joins = refl;
  told = record { seen = none_noted disk.seen; shows = shows_none shown };
}

-- and one batch more
joins_more : (p : Params) (t : FlatTable) (rs : List BatchRecord) (r : BatchRecord) (rows mid rows' : Rows) → AllRowsJoin p t rs rows mid → RowsJoin (batch_picked p (table_after_records p t rs) (asked_of_record p r)) mid rows' → AllRowsJoin p t (rs ++ r ∷ []) rows rows'
joins_more p t [] r rows mid rows' none join = (rows', subst (λ (x : Rows). RowsJoin (batch_picked p t (asked_of_record p r)) x rows') none join, refl)
joins_more p t (x ∷ rs) r rows mid rows' (first, one, all) join = (first, one, joins_more p (after p t (Batch (asked_of_record p x))) rs r first mid rows' all join)

-- buckets that are sealed as these, behind those
seals_join : (a b c : Buckets) → SameSeals a b → b.order ≡ [] → SameSeals (record b { order = [] }) c → SameSeals a c
seals_join a b c s none then = record {
  homes = λ u. then.homes u ∙ s.homes u;
  generations = λ u. then.generations u ∙ s.generations u;
  bases = λ u. then.bases u ∙ s.bases u;
  ranks = λ u. then.ranks u ∙ s.ranks u;
  order = then.order ∙ sym none ∙ s.order;
}

module _ (keys : Keys) (o : Kept) (most : ℕ) (rs : List BatchRecord) (n : ℕ) (low : n < length rs) (old mid new : Disk) (before shown later : Trace) (ring ring' : Kept)
    (so : Repeating keys o most rs n old mid before shown ring) (none : ring.metas.order ≡ []) (keeps : Keeps old mid) where
  abbrev r : BatchRecord
  r = record_at rs n

  abbrev p : Params
  p = o.p

  abbrev c : Content
  c = content_of_ring o

  abbrev t : FlatTable
  t = table_after_records p (flat_of p c) (take n rs)

  more : take (n + 1) rs ≡ take n rs ++ r ∷ []
  more = take_more rs n nothing low

  module _ (result : Result (Unit {0}) Fault) (one' : OneRepeat keys ring.p most mid new shown later ring ring' r result) where
    one : OneRepeat keys p most mid new shown later ring ring' r result
    one = subst (λ (q : Params). OneRepeat keys q most mid new shown later ring ring' r result) so.params one'

    table_then : StandsFor ring' (table_after_records p (flat_of p c) (take (n + 1) rs))
    table_then = subst (λ (x : FlatTable). StandsFor ring' x) (sym (ap (λ (l : List BatchRecord). table_after_records p (flat_of p c) l) more ∙ table_more p (flat_of p c) (take n rs) r)) (one.table t so.table)

    entries_then : (k : ℕ) → entry_at ring'.book k ≡ entries_after_records p (λ i. entry_at o.book i) (take (n + 1) rs) k
    entries_then k =
        one.entries k
        ∙ ap (λ (e : ℕ → Option Entry). after_labels e (record_places p r) k) (fun_ext so.entries)
        ∙ ap (λ (e : ℕ → Option Entry). e k) (sym (entries_more p (λ i. entry_at o.book i) (take n rs) r))
        ∙ ap (λ (l : List BatchRecord). entries_after_records p (λ i. entry_at o.book i) l k) (sym more)

    seals_then : SameSeals o.metas ring'.metas
    seals_then = seals_join o.metas ring.metas ring'.metas so.seals none one.seals

  -- it went well
  pub repeated : OneRepeat keys ring.p most mid new shown later ring ring' r (Ok tt) → Repeating keys o most rs (n + 1) old new before later ring'
  repeated one' =
      let one = subst (λ (q : Params). OneRepeat keys q most mid new shown later ring ring' r (Ok tt)) so.params one' in
      record {
        params = one'.params ∙ so.params;
        table = table_then (Ok tt) one';
        entries = entries_then (Ok tt) one';
        seals = seals_then (Ok tt) one';
        counter = one'.counter ∙ so.counter;
        room = one'.room ∙ so.room;
        read = λ tells.
            let same : mid.cells ≡ old.cells = fun_ext (λ k. keeps.cells tells k) in
            let last = subst (λ (image : Image). BatchAnswers keys p o.metas.versions image t r (ring.stash).rows (ring'.stash).rows (Ok tt)) same (one.value o.metas t so.seals so.table (keeps.tells tells)) in
            subst (λ (l : List BatchRecord). AreRepeated p (slots_in keys p c old.cells) (flat_of p c) c.rows (ring'.stash).rows l) (sym more)
            (repeated_more p (slots_in keys p c old.cells) (flat_of p c) c.rows (ring.stash).rows (ring'.stash).rows (take n rs) r (so.read tells) last);
        joins = subst (λ (l : List BatchRecord). AllRowsJoin p (flat_of p c) l (o.stash).rows (ring'.stash).rows) (sym more)
            (joins_more p (flat_of p c) (take n rs) r (o.stash).rows (ring.stash).rows (ring'.stash).rows so.joins (one.joins t so.table));
        told = subst (λ (l : List BatchRecord). RepeatsTold most p c l old.seen new.seen before later) (sym more)
            (told_more most p c (take n rs) r old.seen mid.seen new.seen before shown later so.told (one.told o.metas t so.seals so.table));
      }

  -- the batches up to this one, which was shown or not
  first_shown : RepeatsTold most p c (take n rs ++ r ∷ []) old.seen new.seen before later → RepeatsFirst most p c rs old.seen new.seen before later
  first_shown told = record { count = n + 1; few = omega arith; told = subst (λ (l : List BatchRecord). RepeatsTold most p c l old.seen new.seen before later) (sym more) told }

  first_before : RepeatsTold most p c (take n rs) old.seen new.seen before later → RepeatsFirst most p c rs old.seen new.seen before later
  first_before told = record { count = n; few = omega arith; told = told }

  damage_is : (d : Damage) → old.tells → OneRepeat keys p most mid new shown later ring ring' r (Err (Damaged d.cell d.check d.kept d.computed)) → IsRepeatDamage keys p old.cells c rs d
  damage_is d tells one =
      let same : mid.cells ≡ old.cells = fun_ext (λ k. keeps.cells tells k) in
      record {
        before = take n rs;
        broken = r;
        rest = drop (suc n) rs;
        split = split_at rs n low;
        rows = (ring.stash).rows;
        read = so.read tells;
        damage = subst (λ (image : Image). BatchAnswers keys p o.metas.versions image t r (ring.stash).rows (ring'.stash).rows (Err (Damaged d.cell d.check d.kept d.computed))) same
            (one.value o.metas t so.seals so.table (keeps.tells tells));
      }
    where
      split_at : (xs : List BatchRecord) (i : ℕ) → i < length xs → xs ≡ take i xs ++ record_at xs i ∷ drop (suc i) xs
      split_at [] i lt = absurd (omega arith)
      split_at (x ∷ xs) zero lt = refl
      split_at (x ∷ xs) (suc i) lt = ap (λ (l : List BatchRecord). x ∷ l) (split_at xs i (omega arith))

  -- it was refused
  pub refused_value : (rows : Rows) (f : Fault) → IsRepeatFault f → OneRepeat keys ring.p most mid new shown later ring ring' r (Err f) → old.tells → RepeatsAnswer keys o old.cells rs rows (Err f)
  refused_value rows Memory fault last tells = absurd fault
  refused_value rows Usage fault last tells = absurd fault
  refused_value rows (BadScript line) fault last tells = absurd fault
  refused_value rows (BadParams field) fault last tells = absurd fault
  refused_value rows NotStore fault last tells = absurd fault
  refused_value rows (Damaged cell check kept computed) fault last tells = damage_is (record { cell = cell; check = check; kept = kept; computed = computed }) tells
      (subst (λ (q : Params). OneRepeat keys q most mid new shown later ring ring' r (Err (Damaged cell check kept computed))) so.params last)
  refused_value rows (StoreFault unsure) fault last tells = tt
  refused_value rows (StashFull full) fault last tells = absurd fault
  refused_value rows (Worn number) fault last tells = absurd fault
  refused_value rows SourceFault fault last tells = absurd fault
  refused_value rows SinkFault fault last tells = absurd fault

  pub refused_does : (f : Fault) → IsRepeatFault f → OneRepeat keys ring.p most mid new shown later ring ring' r (Err f) → RepeatDoes {T = Unit {0}} most p c rs old.seen new.seen before later (Err f)
  refused_does Memory fault last = absurd fault
  refused_does Usage fault last = absurd fault
  refused_does (BadScript line) fault last = absurd fault
  refused_does (BadParams field) fault last = absurd fault
  refused_does NotStore fault last = absurd fault
  refused_does (Damaged cell check kept computed) fault last = first_shown (told_more most p c (take n rs) r old.seen mid.seen new.seen before shown later so.told
      ((subst (λ (q : Params). OneRepeat keys q most mid new shown later ring ring' r (Err (Damaged cell check kept computed))) so.params last).told o.metas t so.seals so.table))
  refused_does (StoreFault unsure) fault last = ⊎_elim (λ all. first_shown (told_more most p c (take n rs) r old.seen mid.seen new.seen before shown later so.told all))
      (λ none_shown. first_before (told_still most p c (take n rs) old.seen mid.seen new.seen before shown later so.told none_shown.0 none_shown.1))
      ((subst (λ (q : Params). OneRepeat keys q most mid new shown later ring ring' r (Err (StoreFault unsure))) so.params last).told o.metas t so.seals so.table)
  refused_does (StashFull rows) fault last = absurd fault
  refused_does (Worn number) fault last = absurd fault
  refused_does SourceFault fault last = absurd fault
  refused_does SinkFault fault last = absurd fault

-- ---- all of them

module _ (keys : Keys) (o : Kept) (most : ℕ) (rs : List BatchRecord) (n : ℕ) (old now : Disk) (before shown : Trace) (ring : Kept) (all : length rs ≤ n) (so : Repeating keys o most rs n old now before shown ring) where
  abbrev kept : Content
  kept = content_of_ring o

  whole : take n rs ≡ rs
  whole = take_all n rs all

  pub all_repeated : HasRepeated o rs ring
  all_repeated = record {
    params = so.params;
    table = subst (λ (l : List BatchRecord). StandsFor ring (table_after_records o.p (flat_of o.p kept) l)) whole so.table;
    entries = λ k. so.entries k ∙ ap (λ (l : List BatchRecord). entries_after_records o.p (λ i. entry_at o.book i) l k) whole;
    joins = subst (λ (l : List BatchRecord). AllRowsJoin o.p (flat_of o.p kept) l (o.stash).rows (ring.stash).rows) whole so.joins;
    seals = so.seals;
    counter = so.counter;
    room = so.room;
  }

  pub all_read : old.tells → RepeatsAnswer keys o old.cells rs (ring.stash).rows (Ok tt)
  all_read tells = subst (λ (l : List BatchRecord). AreRepeated o.p (slots_in keys o.p kept old.cells) (flat_of o.p kept) kept.rows (ring.stash).rows l) whole (so.read tells)

  pub all_told : RepeatsTold most o.p kept rs old.seen now.seen before shown
  all_told = subst (λ (l : List BatchRecord). RepeatsTold most o.p kept l old.seen now.seen before shown) whole so.told
