-- During an append each image stands for what stood, or for that with the record.
use Rattle.std.specs.Prelude.{◌≡◌, ◌⊎◌, ◌<◌, ◌≤◌, ℕ, suc, ◌+◌, ◌*◌, ◌%◌, List, [], ◌∷◌, ◌++◌, length}
use Rattle.std.proofs.Common.{arith, refl, sym, inl, inr, ⊎_elim, subst, length-append}
use Rattle.std.proofs.lemmas.Bool.{cases_lt}
use Rattle.std.proofs.Math.ListN.{get_or-append}
use Rattle.std.proofs.Math.Seq.{get_or-append_seam}
use Rattle.ob_base.specs.declared.params.Params.{Params}
use Rattle.ob_base.specs.Layout.{record_cells, log_cells, log_cell}
use Rattle.ob_base.proofs.LayoutLaws.{area_le, log_lies}
use Rattle.ob_store.specs.Disk.{Disk, Image}
use Rattle.ob_store.specs.Images.{LeavesOnly}
use Rattle.ob_store.proofs.Moments.{no_later}
use Rattle.ob_seal.specs.declared.keys.Keys.{Keys}
use Rattle.ob_twin.specs.Keyed.{tagging}
use Rattle.ob_twin.proofs.Frames.{register_moved}
use Rattle.ob_log.specs.Logs.{BatchRecord, OpenRecords, record_at, nothing}
use Rattle.ob_log.specs.Appends.{HoldsOneOf}
use Rattle.ob_stand.specs.Stands.{RingStanding, AreKnown, Stands, OneOf, with_record}
use Rattle.ob_stand.specs.Spare.{SameRegister, SameRest, with_records}
use Rattle.ob_stand.specs.Appends.{MayAppend, SameButBatch, AppendDecides, AppendStands, Appending}
use Rattle.ob_stand.proofs.Frames.{frame_records}

module _ (keys : Keys) (p : Params) (s : RingStanding) (r : BatchRecord) (may : MayAppend p s r) where
  -- the cells of the next batch lie in the logs
  off : (k : ℕ) → (k < 9) ⊎ (9 + 2 * log_cells p ≤ k) → (k < log_cell p (suc s.epoch % 2) (length s.records) 0) ⊎ (log_cell p (suc s.epoch % 2) (length s.records) 0 + (record_cells p + 1) ≤ k)
  off k (inl low) = inl (omega arith)
  off k (inr high) = inr (omega (arith, (log_lies p (suc s.epoch % 2) (length s.records) (record_cells p) may.room (omega arith)).to, area_le (log_cells p) (suc s.epoch % 2) (omega arith)))

  rest_by : (c d : Image) → SameButBatch p s c d → SameRest p s c d
  rest_by c d same = record {
    head = same 0 (off 0 (inl (omega arith)));
    checkpoint = λ k lies. same k (off k (inr (let from = lies.from in omega arith)));
    slots = λ u j lu lj free. same _ (off _ (inr (omega arith)));
  }

  register_by : (c d : Image) (first : ℕ) → first ≤ 5 → SameButBatch p s c d → SameRegister first c d
  register_by c d first le same k lo hi = same k (off k (inl (omega arith)))

  with_log : (rs : List BatchRecord) (c d : Image) → SameButBatch p s c d → AreKnown rs s.generation → OpenRecords keys p (suc s.epoch) rs c → Stands keys p s d → Stands keys p (with_records s rs) c
  with_log rs c d same known log stands = record {
    generation = register_moved (tagging keys) 1 s.generation c d (register_by c d 1 (omega arith) same) stands.generation;
    epoch = register_moved (tagging keys) 5 s.epoch c d (register_by c d 5 (omega arith) same) stands.epoch;
    holds = frame_records keys p s c d (rest_by c d same) rs log known stands.holds;
  }

  known_more : AreKnown s.records s.generation → AreKnown (s.records ++ r ∷ []) s.generation
  known_more was b lt = ⊎_elim
      (λ (at : b < length s.records). subst (λ x. x.generation ≤ s.generation) (sym (get_or-append s.records (r ∷ []) nothing b at)) (was b at))
      (λ (ge : length s.records ≤ b). (
      let is : length s.records ≡ b = omega (arith, length-append s.records (r ∷ [])) in
      subst (λ x. (record_at (s.records ++ r ∷ []) x).generation ≤ s.generation) is
      (subst (λ x. x.generation ≤ s.generation) (sym (get_or-append_seam s.records r [] nothing)) may.known)))
      (cases_lt b (length s.records))

  pub decided : (c d : Image) → SameButBatch p s c d → Stands keys p s d → AppendDecides keys p s r c d
  decided c d same stands = record {
    old = λ log. with_log s.records c d same stands.holds.records_known log stands;
    new = λ log. with_log (s.records ++ r ∷ []) c d same (known_more stands.holds.records_known) log stands;
  }

  one_of : (c d : Image) → SameButBatch p s c d → Stands keys p s d → HoldsOneOf keys p (suc s.epoch) s.records r c → OneOf keys p s (with_record s r) c
  one_of c d same stands either = ⊎_elim (λ log. inl ((decided c d same stands).old log)) (λ log. inr ((decided c d same stands).new log)) either

pub append_stands : AppendStands
append_stands keys p s r c d may same stands = decided keys p s r may c d same stands

module _ (keys : Keys) (p : Params) (s : RingStanding) (r : BatchRecord) (old new : Disk) (only : (c : Image) → old.left_since old.moment c → old.may_leave c) (appending : Appending keys p s r old new) where
  moved : (c : Image) → ((d : Image) × old.may_leave d × SameButBatch p s c d) → HoldsOneOf keys p (suc s.epoch) s.records r c → OneOf keys p s (with_record s r) c
  moved c back either = one_of keys p s r appending.may c back.0 back.2 (appending.images back.0 (inl back.1)) either

  pub appends_leave : LeavesOnly old new (OneOf keys p s (with_record s r))
  appends_leave = record {
    later = appending.passes.later;
    each = λ c left. ⊎_elim
        (λ was. inl (appending.images c (inl (only c was))))
        (λ back. moved c back (appending.records.each c left))
        (appending.passes.since old.moment c (no_later old.moment) left);
    before = λ t c le left. ⊎_elim
        (λ was. inl was)
        (λ back. ⊎_elim (λ was. inl was) (λ either. inr (moved c back either)) (appending.records.before t c le left))
        (appending.passes.since t c le left);
    told = λ tells.
        let back = appending.passes.told tells in
        one_of keys p s r appending.may new.cells old.cells back.1 (appending.images old.cells (inr (back.0, refl))) (appending.records.told tells);
  }
