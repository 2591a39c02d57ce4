-- What stands in the clear while a store is made.
use Rattle.std.proofs.Common.{◌≡◌, ◌⊎◌, inl, inr, ⊎_elim, ℕ, zero, suc, ◌%◌, ◌<◌, ◌≤◌, false, true, List, get_or, Option, Result, Ok, Err, refl, sym, ◌∙◌, subst, arith}
use Rattle.std.specs.Prelude.{IsErr}
use Rattle.std.proofs.lemmas.Bool.{cases_eq}
use Rattle.ob_store.specs.Disk.{Image}
use Rattle.ob_store.specs.Images.{SameBut}
use Rattle.ob_store.specs.declared.event.Event.{Event}
use Rattle.ob_twin.specs.Bodies.{Tagging, closed_gate}
use Rattle.ob_twin.specs.Clear.{AreInClear, AreInClearBut, InClearBy, IsInClear, IsLastWrite, IsWritten}
use Rattle.ob_twin.proofs.Clear.{clear_then}
use Rattle.ob_start.specs.Clear.{IsKeptOrShut, IsLaidInClear, LaidInClearBy, ShutBy}
use Rattle.ob_start.specs.Laying.{LieBehind, SameButThese}
use Rattle.ob_start.specs.Orders.{register_gates}

-- ---- gates that are shut

module _ (gate : ℕ) (old mid new : Image) (same : SameBut gate new mid) where
  -- one more was written
  pub kept_one : new gate ≡ closed_gate → ((cell : ℕ) → IsKeptOrShut old mid cell) → (cell : ℕ) → IsKeptOrShut old new cell
  kept_one put each cell = ⊎_elim
      (λ (e : cell ≡ gate). inr (subst (λ k. new k ≡ closed_gate) (sym e) put))
      (λ off. ⊎_elim (λ kept. inl (same cell off ∙ kept)) (λ shut. inr (same cell off ∙ shut)) (each cell))
      (cases_eq cell gate)

  -- the write of one more was refused
  kept_lost : (seen : Option (List Event)) → IsLastWrite gate seen → ((cell : ℕ) → IsKeptOrShut old mid cell) → (cell : ℕ) → IsKeptOrShut old new cell ⊎ IsLastWrite cell seen
  kept_lost seen last each cell = ⊎_elim
      (λ (e : cell ≡ gate). inr (subst (λ k. IsLastWrite k seen) (sym e) last))
      (λ off. inl (⊎_elim (λ kept. inl (same cell off ∙ kept)) (λ shut. inr (same cell off ∙ shut)) (each cell)))
      (cases_eq cell gate)

  pub shut_refused : {T E : Type 0} (seen : Option (List Event)) (r : Result T E) → IsErr r → IsLastWrite gate seen → ((cell : ℕ) → IsKeptOrShut old mid cell) → ShutBy seen old new r
  shut_refused seen (Ok v) err last each = absurd (let wrong : false ≡ true = err in cc)
  shut_refused seen (Err e) err last each = kept_lost seen last each

-- the registers' gates are in cells of even number, behind the head
gate_even : (i : ℕ) → i < 4 → (get_or register_gates i 0 % 2 ≡ 0) × (1 ≤ get_or register_gates i 0)
gate_even zero lt = (refl, omega arith)
gate_even (suc zero) lt = (refl, omega arith)
gate_even (suc (suc zero)) lt = (refl, omega arith)
gate_even (suc (suc (suc zero))) lt = (refl, omega arith)
gate_even (suc (suc (suc (suc i)))) lt = absurd (omega arith)

module _ (tag : Tagging) (old new : Image) (same : SameButThese register_gates new old) where
  register_clear : (cell : ℕ) → IsKeptOrShut old new cell → IsInClear tag old new cell
  register_clear cell (inl kept) = inl kept
  register_clear cell (inr shut) = ⊎_elim
      (λ even. ⊎_elim
      (λ none. inl (same cell (λ i lt e. (let g = gate_even i lt in let high = g.1 in absurd (omega (arith, none, high, e))))))
      (λ some. inr (omega arith, inr (even, inr shut)))
      (cases_eq cell 0))
      (λ odd. inl (same cell (λ i lt e. (let g = gate_even i lt in let even = g.0 in absurd (odd (subst (λ k. k % 2 ≡ 0) (sym e) even))))))
      (cases_eq (cell % 2) 0)

  pub all_shut : ((cell : ℕ) → IsKeptOrShut old new cell) → AreInClear tag old new
  all_shut each cell low = register_clear cell (each cell)

  pub some_shut : (seen : Option (List Event)) → ((cell : ℕ) → IsKeptOrShut old new cell ⊎ IsLastWrite cell seen) → AreInClearBut tag seen old new
  some_shut seen each cell low = ⊎_elim (λ (kept : IsKeptOrShut old new cell). inl (register_clear cell kept)) (λ (lost : IsLastWrite cell seen). inr lost) (each cell)

-- so it is behind a refusal, whatever else is known of it
pub err_clear : {T E : Type 0} (tag : Tagging) (seen : Option (List Event)) (old new : Image) (r : Result T E) → IsErr r → AreInClearBut tag seen old new → InClearBy tag seen old new r
err_clear tag seen old new (Ok v) err clear = absurd (let wrong : false ≡ true = err in cc)
err_clear tag seen old new (Err e) err clear = clear

-- further gates lie behind the registers
pub low_kept : (more : List ℕ) (old new : Image) → LieBehind 8 more → SameButThese more new old → (cell : ℕ) → cell ≤ 8 → new cell ≡ old cell
low_kept more old new behind same cell low = same cell (λ j below e. (let high = behind j below in absurd (omega (arith, e, high, low))))

-- ---- the head

module _ (Head : List ℕ → Type 0) (tag : Tagging) where
  pub laid_on : (old mid new : Image) (cell : ℕ) → IsLaidInClear Head tag old mid cell → IsInClear tag mid new cell → IsLaidInClear Head tag old new cell
  laid_on old mid new cell (inl one) two = inl (clear_then tag old mid new cell one two)
  laid_on old mid new cell (inr (none, head)) (inl two) = inr (none, subst Head (sym (subst (λ k. new k ≡ mid k) none two)) head)
  laid_on old mid new cell (inr head) (inr two) = inl (inr two)

  -- the head was written
  pub head_laid : (old new : Image) → SameBut 0 new old → Head (new 0) → (cell : ℕ) → IsLaidInClear Head tag old new cell
  head_laid old new same head cell = ⊎_elim (λ e. inr (e, head)) (λ off. inl (inl (same cell off))) (cases_eq cell 0)

  -- its write, or the sync behind it, was refused
  pub head_lost : {T E : Type 0} (bytes : List ℕ) (seen : Option (List Event)) (old new : Image) (r : Result T E) → IsErr r → Head bytes → SameBut 0 new old → IsWritten 0 bytes seen new → LaidInClearBy Head tag seen old new r
  head_lost bytes seen old new (Ok v) err head same wrote = absurd (let wrong : false ≡ true = err in cc)
  head_lost bytes seen old new (Err e) err head same (inl is) = λ cell low. inl (head_laid old new same (subst Head (sym is) head) cell)
  head_lost bytes seen old new (Err e) err head same (inr last) = λ cell low. ⊎_elim (λ (none : cell ≡ 0). inr (subst (λ k. IsLastWrite k seen) (sym none) last)) (λ off. inl (inl (inl (same cell off)))) (cases_eq cell 0)

  module _ (old mid new : Image) (first : (cell : ℕ) → cell ≤ 8 → IsLaidInClear Head tag old mid cell) where
    pub laid_then : {T E : Type 0} (seen : Option (List Event)) (r : Result T E) → InClearBy tag seen mid new r → LaidInClearBy Head tag seen old new r
    laid_then seen (Ok v) last = λ cell low. laid_on old mid new cell (first cell low) (last cell low)
    laid_then seen (Err e) last = λ cell low. ⊎_elim (λ (two : IsInClear tag mid new cell). inl (laid_on old mid new cell (first cell low) two)) (λ (lost : IsLastWrite cell seen). inr lost) (last cell low)

    pub laid_refused : {T E : Type 0} (seen : Option (List Event)) (r : Result T E) → IsErr r → AreInClearBut tag seen mid new → LaidInClearBy Head tag seen old new r
    laid_refused seen (Ok v) err last = absurd (let wrong : false ≡ true = err in cc)
    laid_refused seen (Err e) err last = λ cell low. ⊎_elim (λ (two : IsInClear tag mid new cell). inl (laid_on old mid new cell (first cell low) two)) (λ (lost : IsLastWrite cell seen). inr lost) (last cell low)
