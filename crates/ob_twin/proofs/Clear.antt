-- What stands in the clear behind a set.
use Rattle.std.proofs.Common.{◌≡◌, ◌⊎◌, inl, inr, ⊎_elim, ℕ, ◌%◌, ◌<◌, ◌≤◌, ◌^◌, Bool, true, false, if◌then◌else◌, List, [], ◌∷◌, Option, Some, None, Result, Ok, Err, refl, sym, ◌∙◌, subst, arith}
use Rattle.std.specs.Prelude.{IfErr, OnOk}
use Rattle.std.proofs.lemmas.Bool.{cases_eq}
use Rattle.ob_store.specs.Disk.{Image}
use Rattle.ob_store.specs.Calls.{Notes}
use Rattle.ob_store.specs.declared.event.Event.{Event}
use Rattle.ob_store.specs.declared.event.Event.TheVariants.{Write}
use Rattle.ob_twin.specs.declared.set_err.SetErr.{SetErr}
use Rattle.ob_twin.specs.declared.set_err.SetErr.TheVariants.{Before, Unsure}
use Rattle.ob_twin.specs.declared.twin.Twin.{Twin}
use Rattle.ob_twin.specs.declared.twin.Twin.TheVariants.{GENERATION, EPOCH}
use Rattle.ob_twin.specs.Bodies.{Tagging, open_gate, closed_gate, body_of}
use Rattle.ob_twin.specs.Register.{first_of, body_at, gate_at, place_of, SameTwo, IsPut}
use Rattle.ob_twin.specs.Clear.{IsLastWrite, IsWritten, IsClosing, IsLaying, IsOpening, SetLeft, IsRegisterCell, IsInClear, AreInClear, AreInClearBut, InClearBy}

-- a write that was made behind the calls before it is the last one
pub last_written : (cell : ℕ) (a b : Option (List Event)) → Notes (Write cell ∷ []) a b → IsLastWrite cell b
last_written cell a None noted = tt
last_written cell (Some xs) (Some ys) noted = (xs, noted)
last_written cell None (Some ys) noted = absurd noted

module _ (tag : Tagging) (first n : ℕ) (odd : first % 2 ≡ 1) (small : n < 2 ^ 62) where
  body_cell : (bytes : List ℕ) → bytes ≡ body_of tag (body_at first (place_of n)) n → IsRegisterCell tag (body_at first (place_of n)) bytes
  body_cell bytes is = (omega (arith, odd), inl (omega (arith, odd), record { number = n; small = small; spelled = is }))

  gate_cell : (bytes : List ℕ) → (bytes ≡ open_gate) ⊎ (bytes ≡ closed_gate) → IsRegisterCell tag (gate_at first (place_of n)) bytes
  gate_cell bytes is = (omega (arith, odd), inr (omega (arith, odd), is))

  module _ (from image : Image) where
    -- two cells of a register, and the others as they were
    by_two : (P : ℕ → Type 0) → SameTwo (body_at first (place_of n)) (gate_at first (place_of n)) image from → ((cell : ℕ) → image cell ≡ from cell → P cell) → P (body_at first (place_of n)) → P (gate_at first (place_of n)) → (cell : ℕ) → P cell
    by_two P same others at_body at_gate cell = ⊎_elim
        (λ e. subst P (sym e) at_body)
        (λ off. ⊎_elim (λ e. subst P (sym e) at_gate) (λ on. others cell (same cell off on)) (cases_eq cell (gate_at first (place_of n))))
        (cases_eq cell (body_at first (place_of n)))

    put_clear : IsPut tag first from n image → AreInClear tag from image
    put_clear put cell low = by_two (λ k. IsInClear tag from image k) put.rest (λ k same. inl same)
        (inr (body_cell (image (body_at first (place_of n))) put.body))
        (inr (gate_cell (image (gate_at first (place_of n))) (inl put.opened))) cell

    module _ (seen : Option (List Event)) where
      abbrev Told : ℕ → Type 0
      Told cell = IsInClear tag from image cell ⊎ IsLastWrite cell seen

      body_told : IsWritten (body_at first (place_of n)) (body_of tag (body_at first (place_of n)) n) seen image → Told (body_at first (place_of n))
      body_told (inl is) = inl (inr (body_cell (image (body_at first (place_of n))) is))
      body_told (inr last) = inr last

      gate_told : (bytes : List ℕ) → (bytes ≡ open_gate) ⊎ (bytes ≡ closed_gate) → IsWritten (gate_at first (place_of n)) bytes seen image → Told (gate_at first (place_of n))
      gate_told bytes gate (inl is) = inl (inr (gate_cell (image (gate_at first (place_of n))) (⊎_elim (λ o. inl (is ∙ o)) (λ s. inr (is ∙ s)) gate)))
      gate_told bytes gate (inr last) = inr last

      -- the gate as it was closed, or as it was
      gate_kept : (closes : Bool) → image (gate_at first (place_of n)) ≡ (if closes then closed_gate else from (gate_at first (place_of n))) → Told (gate_at first (place_of n))
      gate_kept true is = inl (inr (gate_cell (image (gate_at first (place_of n))) (inr is)))
      gate_kept false is = inl (inl is)

      closing_clear : (closes : Bool) → IsClosing closes (gate_at first (place_of n)) seen from image → AreInClearBut tag seen from image
      closing_clear closes left cell low = ⊎_elim
          (λ (e : cell ≡ gate_at first (place_of n)). subst Told (sym e) (gate_told closed_gate (inr refl) left.gate_is))
          (λ off. inl (inl (left.rest cell off)))
          (cases_eq cell (gate_at first (place_of n)))

      laying_clear : (closes : Bool) → IsLaying tag closes first n seen from image → AreInClearBut tag seen from image
      laying_clear closes left cell low = by_two Told left.rest (λ k same. inl (inl same)) (body_told left.body_is) (gate_kept closes left.gate_is) cell

      opening_clear : IsOpening tag first n seen from image → AreInClearBut tag seen from image
      opening_clear left cell low = by_two Told left.rest (λ k same. inl (inl same)) (body_told (inl left.body_is)) (gate_told open_gate (inl refl) left.gate_is) cell

      left_clear : (closes : Bool) (refused : SetErr) → SetLeft tag closes first n seen from image refused → AreInClearBut tag seen from image
      left_clear closes (Before f) (inl left) = closing_clear closes left
      left_clear closes (Before f) (inr left) = laying_clear closes left
      left_clear closes (Unsure f) left = opening_clear left

      by_answer : (closes : Bool) (r : Result (Unit {0}) SetErr) → OnOk r (IsPut tag first from n image) → IfErr r (SetLeft tag closes first n seen from image) → InClearBy tag seen from image r
      by_answer closes (Ok done) put left = put_clear put
      by_answer closes (Err refused) put left = left_clear closes refused left

odd_first : (twin : Twin) → first_of twin % 2 ≡ 1
odd_first GENERATION = refl
odd_first EPOCH = refl

-- so it is behind a set, whatever it answers
pub set_clear : (tag : Tagging) (twin : Twin) (n : ℕ) (closes : Bool) (seen : Option (List Event)) (from image : Image) → n < 2 ^ 62 → (r : Result (Unit {0}) SetErr) → OnOk r (IsPut tag (first_of twin) from n image)
    → IfErr r (SetLeft tag closes (first_of twin) n seen from image) → InClearBy tag seen from image r
set_clear tag twin n closes seen from image small r put left = by_answer tag (first_of twin) n (odd_first twin) small from image seen closes r put left

-- ---- from call to call

-- what is kept is in the clear
pub none_clear : (tag : Tagging) (old new : Image) → ((cell : ℕ) → cell ≤ 8 → new cell ≡ old cell) → AreInClear tag old new
none_clear tag old new same cell low = inl (same cell low)

pub clear_then : (tag : Tagging) (old mid new : Image) (cell : ℕ) → IsInClear tag old mid cell → IsInClear tag mid new cell → IsInClear tag old new cell
clear_then tag old mid new cell one (inr two) = inr two
clear_then tag old mid new cell (inl one) (inl two) = inl (two ∙ one)
clear_then tag old mid new cell (inr one) (inl two) = inr (subst (λ (l : List ℕ). IsRegisterCell tag cell l) (sym two) one)

module _ (tag : Tagging) (old mid new : Image) (first : AreInClear tag old mid) where
  pub both_clear : AreInClear tag mid new → AreInClear tag old new
  both_clear last cell low = clear_then tag old mid new cell (first cell low) (last cell low)

  pub clear_but : (seen : Option (List Event)) → AreInClearBut tag seen mid new → AreInClearBut tag seen old new
  clear_but seen last cell low = ⊎_elim (λ (two : IsInClear tag mid new cell). inl (clear_then tag old mid new cell (first cell low) two)) (λ (lost : IsLastWrite cell seen). inr lost) (last cell low)

  pub by_then : {T E : Type 0} (seen : Option (List Event)) (r : Result T E) → InClearBy tag seen mid new r → InClearBy tag seen old new r
  by_then seen (Ok v) last = both_clear last
  by_then seen (Err e) last = clear_but seen last

-- all of them, whatever is answered
pub clear_all : {T E : Type 0} (tag : Tagging) (seen : Option (List Event)) (old new : Image) (r : Result T E) → AreInClear tag old new → InClearBy tag seen old new r
clear_all tag seen old new (Ok v) clear = clear
clear_all tag seen old new (Err e) clear = λ cell low. inl (clear cell low)
