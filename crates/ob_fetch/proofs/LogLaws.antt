-- One open record more in a log, and what stays of the slots.
use Rattle.std.proofs.Common.{◌≡◌, inl, inr, ⊎_elim, ℕ, ◌+◌, ◌*◌, ◌%◌, ◌<◌, ◌≤◌, List, [], ◌∷◌, ◌++◌, take, drop, length, sym, ap, ◌∙◌, subst, arith, length-append}
use Rattle.std.proofs.lemmas.Bool.{cases_lt}
use Rattle.std.proofs.Math.ListN.{get_or-append}
use Rattle.std.proofs.Math.Seq.{get_or-append_seam}
use Rattle.std.proofs.Math.Nat.{mul-le-mul_right}
use mathlib.Core.Path.{fun_ext}
use Rattle.ob_base.specs.declared.params.Params.{Params}
use Rattle.ob_base.specs.Layout.{record_cells, log_cells, log_cell, log_gate, slot_cell}
use Rattle.ob_base.proofs.LayoutLaws.{area_le, log_lies, row_fits}
use Rattle.ob_tables.specs.Buckets.{version_at}
use Rattle.ob_tables.specs.Version.{rank_at}
use Rattle.ob_tables.specs.Content.{Content}
use Rattle.ob_log.specs.Appends.{HoldsRecord}
use Rattle.ob_log.specs.Logs.{BatchRecord, RecordObeys, OpenRecords, SpellsRecord, record_at, nothing}
use Rattle.ob_seal.specs.declared.keys.Keys.{Keys}
use Rattle.ob_seal.specs.Pads.{pad_of, xored}
use Rattle.ob_stand.specs.Reads.{slots_in}
use Rattle.ob_store.specs.Disk.{Image}
use Rattle.ob_store.specs.Images.{SameOff}
use Rattle.ob_twin.specs.Bodies.{open_gate}

module _ (p : Params) (a n : ℕ) where
  -- a cell of an earlier batch
  earlier_off : (b i : ℕ) → b < n → i < record_cells p + 1 → log_cell p a b i < log_cell p a n 0
  earlier_off b i lt li = let h : b * (record_cells p + 1) + i < n * (record_cells p + 1) = row_fits n (record_cells p + 1) b i lt li in omega arith

  -- a gate of a later one
  later_off : (b : ℕ) → n + 1 ≤ b → log_cell p a n 0 + (record_cells p + 1) ≤ log_gate p a b
  later_off b le = let h : (n + 1) * (record_cells p + 1) ≤ b * (record_cells p + 1) = mul-le-mul_right (record_cells p + 1) le in
      let s : (n + 1) * (record_cells p + 1) ≡ n * (record_cells p + 1) + (record_cells p + 1) = one_more n (record_cells p + 1) in omega arith
    where
      one_more : (m w : ℕ) → (m + 1) * w ≡ m * w + w
      one_more m w = omega arith

-- one record more in a list
module _ (rs : List BatchRecord) (r : BatchRecord) where
  abbrev many : ℕ
  many = length rs

  abbrev more : List BatchRecord
  more = rs ++ r ∷ []

  pub more_many : length more ≡ many + 1
  more_many = omega (arith, length-append rs (r ∷ []))

  pub more_at : (P : BatchRecord → ℕ → Type 0) → ((b : ℕ) → b < many → P (record_at rs b) b) → P r many → (b : ℕ) → b < length more → P (record_at more b) b
  more_at P before here b lt = ⊎_elim
      (λ (at : b < many). subst (λ x. P x b) (sym (get_or-append rs (r ∷ []) nothing b at)) (before b at))
      (λ (ge : many ≤ b). (let is : many ≡ b = omega (arith, more_many) in subst (λ x. P (record_at more x) x) is (subst (λ x. P x many) (sym (get_or-append_seam rs r [] nothing)) here)))
      (cases_lt b many)

module _ (keys : Keys) (p : Params) (epoch : ℕ) (rs : List BatchRecord) (r : BatchRecord) (room : length rs < p.batches) (obeys : RecordObeys p (length rs) r) where
  abbrev area : ℕ
  area = epoch % 2

  -- where its cells alone have changed, and spell the record behind an open gate
  pub open_more : (now was : Image) → SameOff (log_cell p (epoch % 2) (length rs) 0) (record_cells p + 1) now was → HoldsRecord keys p epoch (length rs) r now → OpenRecords keys p epoch rs was
      → OpenRecords keys p epoch (rs ++ r ∷ []) now
  open_more now was same holds log = record {
    few = omega (arith, more_many rs r);
    opened = more_at rs r (λ x b. now (log_gate p area b) ≡ open_gate)
        (λ b lt. same _ (inl (earlier_off p area (length rs) b (record_cells p) lt (omega arith))) ∙ log.opened b lt)
        holds.gate;
    shut = λ b le lt o. log.shut b (omega (arith, more_many rs r)) lt (sym (same _ (inr (later_off p area (length rs) b (omega (arith, more_many rs r))))) ∙ o);
    bodies = more_at rs r (λ x b. SpellsRecord keys p epoch b x now)
        (λ b lt i li. same _ (inl (earlier_off p area (length rs) b i lt (omega arith))) ∙ log.bodies b lt i li)
        holds.body;
    obey = more_at rs r (λ x b. RecordObeys p b x) log.obey obeys;
  }

-- a batch's cells of a log hold no slot
pub slots_kept : (keys : Keys) (p : Params) (c : Content) (area batch : ℕ) (now was : Image) → area < 2 → batch < p.batches → SameOff (log_cell p area batch 0) (record_cells p + 1) now was
    → slots_in keys p c now ≡ slots_in keys p c was
slots_kept keys p c area batch now was low room same =
    fun_ext (λ u. fun_ext (λ j. (
    let v = version_at c.versions u in
    ap (λ (bytes : List ℕ). xored (take 96 (drop 16 bytes)) (pad_of keys.seal v.generation ((v.base + rank_at v j) % 18446744073709551616)))
    (same (slot_cell p v.home u (rank_at v j)) (inr (behind v.home u (rank_at v j)))))))
  where
    behind : (home u s : ℕ) → log_cell p area batch 0 + (record_cells p + 1) ≤ slot_cell p home u s
    behind home u s = omega (arith, (log_lies p area batch (record_cells p) room (omega arith)).to, area_le (log_cells p) area low)
