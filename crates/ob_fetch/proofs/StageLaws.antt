-- The stages of an append, as those of a fetch.
use Rattle.std.proofs.Common.{◌≡◌, ◌⊎◌, inl, inr, ⊎_elim, ℕ, suc, ◌+◌, ◌%◌, ◌<◌, ◌≤◌, List, [], ◌∷◌, ◌++◌, Option, None, Result, Err, length, refl, sym, subst, append_assoc, arith}
use Rattle.ob_base.specs.Layout.{log_cell, log_gate, record_cells}
use Rattle.ob_base.specs.declared.fault.Fault.{Fault}
use Rattle.ob_base.specs.declared.fault.Fault.TheVariants.{StoreFault}
use Rattle.ob_base.specs.declared.params.Params.{Params}
use Rattle.ob_log.specs.Appends.{AppendStages, AppendsBodyAlone, AppendsInStages, AppendsUnsure, HoldsOneOf, LeavesOf, append_notes, body_notes, gate_notes}
use Rattle.ob_log.specs.Logs.{BatchRecord, OpenRecords, RecordObeys}
use Rattle.ob_seal.specs.declared.keys.Keys.{Keys}
use Rattle.ob_stand.proofs.AppendLaws.{append_stands}
use Rattle.ob_stand.specs.Appends.{AppendDecides}
use Rattle.ob_stand.specs.Stands.{OneOf, RingStanding, Stands, with_record}
use Rattle.ob_store.proofs.Doing.{cut_more, cut_none, cut_sync}
use Rattle.ob_store.proofs.Moments.{weakened}
use Rattle.ob_store.specs.Disk.{Disk, Image}
use Rattle.ob_store.specs.Images.{LeavesOnly, SameOff}
use Rattle.ob_store.specs.Lines.{Trace}
use Rattle.ob_store.specs.Told.{IsCut, TellsFirst}
use Rattle.ob_store.specs.declared.watch.Note.{Note}
use Rattle.ob_store.specs.declared.watch.Note.TheVariants.{Sync, Write}
use Rattle.ob_fetch.proofs.FetchLaws.{next_is}
use Rattle.ob_fetch.proofs.NextLaws.{Begun, at_batch, batch_is, may}
use Rattle.ob_fetch.specs.Fetches.{FetchStages, IsBodyAlone, IsOpenIfShown, IsRecordInStages, KeepsFirst, RunIsAt, next_batch, record_next}
use Rattle.ob_fetch.specs.declared.run.Run.{Run}

-- ---- the notes

-- all but the last sync are some of the first
pub gate_cut : (p : Params) (epoch batch : ℕ) → IsCut (append_notes p epoch batch) (gate_notes p epoch batch) (gate_notes p epoch batch)
gate_cut p epoch batch = subst (λ (xs : List Note). IsCut xs (gate_notes p epoch batch) (gate_notes p epoch batch)) (append_assoc (body_notes p epoch batch) (Write (log_gate p (epoch % 2) batch) ∷ []) (Sync ∷ []))
    (cut_more (gate_notes p epoch batch) (Sync ∷ []) (gate_notes p epoch batch) (gate_notes p epoch batch) (cut_none (gate_notes p epoch batch)))

-- also where that sync failed
sync_failed : (p : Params) (epoch batch : ℕ) → IsCut (append_notes p epoch batch) (append_notes p epoch batch) (gate_notes p epoch batch)
sync_failed p epoch batch = subst (λ (xs : List Note). IsCut xs xs (gate_notes p epoch batch)) (append_assoc (body_notes p epoch batch) (Write (log_gate p (epoch % 2) batch) ∷ []) (Sync ∷ [])) (cut_sync (gate_notes p epoch batch))

module _ {S : Type 0} (disk : S → Disk) (keys : Keys) (p : Params) (epoch : ℕ) (r : BatchRecord) (old new : S) (before later : Trace) where
  -- what was told of an append that its store refused
  pub record IsAppendTold : Type 0 where
    pub first : TellsFirst (append_notes p epoch r.batch) (disk old).seen (disk new).seen before later
    pub how : IsBodyAlone disk keys p epoch r.batch first.shown old new ⊎ (first.shown ≡ gate_notes p epoch r.batch)

  told_by : AppendsBodyAlone disk keys p epoch r.batch r old new before later ⊎ AppendsUnsure disk keys p epoch r.batch r old new before later → IsAppendTold
  told_by (inl alone) = record {
    first = record {
      made = (alone.told).made;
      shown = (alone.told).shown;
      cut = cut_more (body_notes p epoch r.batch) (Write (log_gate p (epoch % 2) r.batch) ∷ Sync ∷ []) (alone.told).made (alone.told).shown (alone.told).cut;
      tells = (alone.told).tells;
    };
    how = inl (record { made = (alone.told).made; cut = (alone.told).cut; kept = alone.until });
  }
  told_by (inr unsure) = ⊎_elim
      (λ tells. record { first = record { made = gate_notes p epoch r.batch; shown = gate_notes p epoch r.batch; cut = gate_cut p epoch r.batch; tells = tells }; how = inr refl })
      (λ tells. record { first = record { made = append_notes p epoch r.batch; shown = gate_notes p epoch r.batch; cut = sync_failed p epoch r.batch; tells = tells }; how = inr refl })
      unsure.told

  pub append_told : (f : Fault) → f ≡ StoreFault None → AppendStages disk keys p epoch r.batch r old new before later (Err f) → IsAppendTold
  append_told f is stages = told_by (subst (λ (e : Fault). AppendStages disk keys p epoch r.batch r old new before later (Err e)) is stages)

  pub open_short : (f : Fault) → f ≡ StoreFault None → (told : IsAppendTold) → IsOpenIfShown disk keys p epoch r (told.first).shown old new (Err f)
  open_short f is told = subst (λ (e : Fault). IsOpenIfShown disk keys p epoch r (told.first).shown old new (Err e)) (sym is) (inl told.how)

-- the epoch, as the call names it
pub stages_next : {S : Type 0} (disk : S → Disk) (keys : Keys) (p : Params) (epoch batch : ℕ) (r : BatchRecord) (old new : S) (before later : Trace) (x : Result (Unit {0}) Fault)
    → AppendStages disk keys p (epoch + 1) batch r old new before later x → AppendStages disk keys p (suc epoch) batch r old new before later x
stages_next disk keys p epoch batch r old new before later x stages = subst (λ (e : ℕ). AppendStages disk keys p e batch r old new before later x) (next_is epoch) stages

-- ---- the images

module _ {S : Type 0} (disk : S → Disk) (run : Run) (s : RingStanding) (asks : List (Option ℕ)) (words : List ℕ) (old : S) (was : RunIsAt run s (disk old)) (some : 0 < run.left) (few : run.left ≤ (run.params).batches)
    (obeys : RecordObeys run.params (next_batch run) (record_next run asks words)) where
  abbrev r : BatchRecord
  r = record_next run asks words

  abbrev keys : Keys
  keys = (run.sealer).keys

  abbrev p : Params
  p = run.params

  begun : Begun run r (disk old) (disk old)
  begun = record { some = some; few = few; is = refl; obeys = obeys; within = λ k off. refl }

  -- no cell differs but the batch's
  abbrev Within : Image → Type 0
  Within c = SameOff (log_cell p (suc run.epoch % 2) (next_batch run) 0) (record_cells p + 1) c (disk old).cells

  decides : (c : Image) → Within c → AppendDecides keys p s r c (disk old).cells
  decides c same = append_stands keys p s r c (disk old).cells (may run s r (disk old) (disk old) was begun)
      (at_batch run s r (disk old) (disk old) was begun (λ e b. SameOff (log_cell p (e % 2) b 0) (record_cells p + 1) c (disk old).cells) same) (was.stands)

  log_at : (rs : List BatchRecord) (c : Image) → OpenRecords keys p (suc run.epoch) rs c → OpenRecords keys p (suc s.epoch) rs c
  log_at rs c log = at_batch run s r (disk old) (disk old) was begun (λ e b. OpenRecords keys p e rs c) log

  stood_at : (c : Image) → OpenRecords keys p (suc run.epoch) s.records c × Within c → Stands keys p s c
  stood_at c both = (decides c both.1).old (log_at s.records c both.0)

  one_at : (c : Image) → HoldsOneOf keys p (suc run.epoch) s.records r c × Within c → OneOf keys p s (with_record s r) c
  one_at c both = ⊎_elim (λ log. inl ((decides c both.1).old (log_at s.records c log))) (λ log. inr ((decides c both.1).new (log_at (s.records ++ r ∷ []) c log))) both.0

  held : OpenRecords keys p (suc run.epoch) s.records (disk old).cells
  held = subst (λ (e : ℕ). OpenRecords keys p (suc e) s.records (disk old).cells) (sym ((was.runs).epoch_is)) ((was.stands).holds).log

  many : length s.records ≡ next_batch run
  many = sym (batch_is run s r (disk old) (disk old) was begun)

  -- until the body is synced
  body_leaves : (end : S) → LeavesOf keys p (suc run.epoch) (next_batch run) (disk old) (disk old) (disk end) (λ rs. OpenRecords keys p (suc run.epoch) rs) → LeavesOnly (disk old) (disk end) (Stands keys p s)
  body_leaves end leaves = weakened (disk old) (disk end) (λ c. OpenRecords keys p (suc run.epoch) s.records c × Within c) (Stands keys p s) stood_at (leaves s.records was.tells was.settled many held)

  abbrev Keeps : S → S → Type 0
  Keeps from to = KeepsFirst (disk old) (disk from) (disk to)

  -- the batch's cells lie behind the registers
  first_kept : (from to : S) (P : List BatchRecord → Image → Type 0) → LeavesOnly (disk from) (disk to) (λ c. P s.records c × Within c) → Keeps from to
  first_kept from to P leaves c left k low = (leaves.each c left).1 k (inl (omega (arith, low)))

  record_until : (end : S) (x : AppendsInStages disk keys p (suc run.epoch) (next_batch run) r old end) → LeavesOnly (disk old) (disk x.between) (λ c. OpenRecords keys p (suc run.epoch) s.records c × Within c)
  record_until end x = x.until s.records was.tells was.settled many held

  record_since : (end : S) (x : AppendsInStages disk keys p (suc run.epoch) (next_batch run) r old end) → LeavesOnly (disk x.between) (disk end) (λ c. HoldsOneOf keys p (suc run.epoch) s.records r c × Within c)
  record_since end x = x.since s.records was.tells was.settled many held

  pub record_stages : (end : S) → AppendsInStages disk keys p (suc run.epoch) (next_batch run) r old end → IsRecordInStages disk run s r old end
  record_stages end x = record {
    stages = record {
      between = x.between;
      made = x.made;
      until = body_leaves x.between x.until;
      since = weakened (disk x.between) (disk end) (λ c. HoldsOneOf keys p (suc run.epoch) s.records r c × Within c) (OneOf keys p s (with_record s r)) one_at (record_since end x);
    };
    kept = (first_kept old x.between (λ rs. OpenRecords keys p (suc run.epoch) rs) (record_until end x), first_kept x.between end (λ rs. HoldsOneOf keys p (suc run.epoch) rs r) (record_since end x));
  }

  -- both together
  record_kept : (end : S) → AppendsInStages disk keys p (suc run.epoch) (next_batch run) r old end → Keeps old end
  record_kept end x c left k low = ⊎_elim
      (λ (before : (disk x.between).left_since (disk old).moment c). first_kept old x.between (λ rs. OpenRecords keys p (suc run.epoch) rs) (record_until end x) c before k low)
      (λ (now : HoldsOneOf keys p (suc run.epoch) s.records r c × Within c). now.1 k (inl (omega (arith, low))))
      ((record_since end x).before (disk old).moment c (record_until end x).later left)

  -- refused while the batch was begun
  pub stages_begun : (end : S) (before later : Trace) (f : Fault) → f ≡ StoreFault None → TellsFirst (append_notes p (suc run.epoch) (next_batch run)) (disk old).seen (disk end).seen before later
      → LeavesOnly (disk old) (disk end) (OneOf keys p s (with_record s r)) → AppendStages disk keys p (suc run.epoch) (next_batch run) r old end before later (Err f) → FetchStages disk run s r old end (Err f)
  stages_begun end before later f is first leaves stages =
      let how : AppendsBodyAlone disk keys p (suc run.epoch) (next_batch run) r old end before later ⊎ AppendsUnsure disk keys p (suc run.epoch) (next_batch run) r old end before later =
      subst (λ (e : Fault). AppendStages disk keys p (suc run.epoch) (next_batch run) r old end before later (Err e)) is stages in
      subst (λ (e : Fault). FetchStages disk run s r old end (Err e)) (sym is)
      (inr (record {
        first = (first.made, first.shown, first.cut, (first.tells).seen);
        leaves = leaves;
        how = ⊎_elim
            (λ (alone : AppendsBodyAlone disk keys p (suc run.epoch) (next_batch run) r old end before later). inl (((alone.told).made, (alone.told).shown, (alone.told).cut, ((alone.told).tells).seen), body_leaves end alone.until))
            (λ (unsure : AppendsUnsure disk keys p (suc run.epoch) (next_batch run) r old end before later). inr (record_stages end unsure.stages))
            how;
        kept = ⊎_elim
            (λ (alone : AppendsBodyAlone disk keys p (suc run.epoch) (next_batch run) r old end before later). first_kept old end (λ rs. OpenRecords keys p (suc run.epoch) rs) (alone.until s.records was.tells was.settled many held))
            (λ (unsure : AppendsUnsure disk keys p (suc run.epoch) (next_batch run) r old end before later). record_kept end unsure.stages)
            how;
      }))
