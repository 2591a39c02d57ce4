-- The cells that a batch's record seals.
use Rattle.std.proofs.Common.{◌≡◌, ◌⊎◌, inl, inr, ⊎_elim, ℕ, ◌+◌, ◌%◌, ◌<◌, ◌≤◌, ◌^◌, Result, Ok, Err, OnOk, sym, ap, ◌∙◌, subst, arith}
use Rattle.std.proofs.lemmas.Bool.{cases_eq}
use Rattle.ob_base.specs.declared.params.Params.{Params}
use Rattle.ob_base.specs.Layout.{log_cell, record_cells}
use Rattle.ob_cells.specs.Writes.{Seals}
use Rattle.ob_log.specs.Appends.{HoldsRecord}
use Rattle.ob_log.specs.Logs.{BatchRecord, record_bytes}
use Rattle.ob_pads.specs.Seals.{CellsAreSealed, IsUnsealed}
use Rattle.ob_pads.proofs.Sealing.{run_sealed}
use Rattle.ob_seal.specs.Pieces.{onward, piece}
use Rattle.ob_seal.specs.Seals.{sealed}
use Rattle.ob_seal.specs.Sealing.{Sealing}
use Rattle.ob_store.specs.Disk.{Image}
use Rattle.ob_store.specs.Images.{SameOff}

module _ (p : Params) (epoch batch : ℕ) (r : BatchRecord) (was now : Sealing) (old new : Image) (number : r.number ≡ was.next) (generation : r.generation ≡ was.generation) (next : now.next ≡ was.next + record_cells p) (fits : was.next + record_cells p ≤ 2 ^ 62)
    (holds : HoldsRecord was.keys p epoch batch r new) (rest : SameOff (log_cell p (epoch % 2) batch 0) (record_cells p + 1) new old) where
  abbrev base : ℕ
  base = log_cell p (epoch % 2) batch 0

  cell_at : (i : ℕ) → log_cell p (epoch % 2) batch i ≡ base + i
  cell_at i = omega arith

  off : (cell : ℕ) → (cell < base) ⊎ (base + record_cells p ≤ cell) → IsUnsealed old new cell
  off cell (inl below) = inl (rest cell (inl below))
  off cell (inr from) = ⊎_elim
      (λ (at : cell ≡ base + record_cells p). inr (inl (ap new (at ∙ sym (cell_at (record_cells p))) ∙ holds.gate)))
      (λ (apart : cell ≡ base + record_cells p → ⊥). inl (rest cell (inr (omega (arith, from, apart)))))
      (cases_eq cell (base + record_cells p))

  body : (i : ℕ) → i < record_cells p → new (base + i) ≡ sealed was.keys (base + i) was.generation (onward was.next i) (piece i (record_bytes epoch r))
  body i lt =
      subst (λ (c : ℕ). new c ≡ sealed was.keys c was.generation (onward was.next i) (piece i (record_bytes epoch r))) (cell_at i)
      (subst (λ (n : ℕ). new (log_cell p (epoch % 2) batch i) ≡ sealed was.keys (log_cell p (epoch % 2) batch i) was.generation (onward n i) (piece i (record_bytes epoch r))) number
      (subst (λ (g : ℕ). new (log_cell p (epoch % 2) batch i) ≡ sealed was.keys (log_cell p (epoch % 2) batch i) g (onward r.number i) (piece i (record_bytes epoch r))) generation (holds.body i lt)))

  pub logged_sealed : CellsAreSealed was now old new
  logged_sealed = run_sealed base (record_cells p) (λ i. piece i (record_bytes epoch r)) was now old new next fits body off

-- where it went well
pub when_logged : {T E : Type 0} (result : Result T E) (p : Params) (epoch batch : ℕ) (r : BatchRecord) (was now : Sealing) (old new : Image) → r.number ≡ was.next → r.generation ≡ was.generation → Seals (record_cells p) was now result → was.next + record_cells p ≤ 2 ^ 62
    → OnOk result (HoldsRecord was.keys p epoch batch r new) → SameOff (log_cell p (epoch % 2) batch 0) (record_cells p + 1) new old → OnOk result (CellsAreSealed was now old new)
when_logged (Ok v) p epoch batch r was now old new number generation seals fits holds rest = logged_sealed p epoch batch r was now old new number generation (ap (λ (s : Sealing). s.next) seals.all) fits holds rest
when_logged (Err e) p epoch batch r was now old new number generation seals fits holds rest = tt
