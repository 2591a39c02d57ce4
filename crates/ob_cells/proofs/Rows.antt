-- Rows of 48 sealed cells, one part behind another.
use Rattle.std.specs.Prelude.{◌≡◌, ◌<◌, ℕ, ◌+◌, ◌-◌, ◌*◌, List, [], ◌++◌, length}
use Rattle.std.proofs.Common.{arith, sym, subst, inl, inr, get_or, length-append}
use Rattle.std.proofs.lemmas.Bool.{cases_lt}
use Rattle.std.proofs.lemmas.List.{get_or_append_left, get_or-append_right}
use Rattle.ob_seal.specs.declared.keys.Keys.{Keys}
use Rattle.ob_cells.specs.Windows.{AreRowsSealed, IsSlotSealed}

pub rows_joined : (keys : Keys) (base generation number : ℕ) (plain : ℕ → List ℕ) (many i few : ℕ) (xs ys : List (List (List ℕ))) → length xs ≡ few → AreRowsSealed keys base generation number plain many i xs → AreRowsSealed keys base generation (number + 48 * few) plain many (i + 48 * few) ys → AreRowsSealed keys base generation number plain many i (xs ++ ys)
rows_joined keys base generation number plain many i few xs ys long front back = λ k lt j low within.
    let a = i + 48 * k + j in
    let n = number + 48 * k + j in
    elim (cases_lt k few) [
      | inl below ↦ subst (λ (row : List (List ℕ)). IsSlotSealed keys (base + a) generation n (plain a) (get_or row j [])) (sym (get_or_append_left xs ys [] k (omega (arith, below, long)))) (front k (omega (arith, below, long)) j low within)
      | inr le ↦ (
          let m = k - few in
          let here : few + m ≡ k = omega (arith, le) in
          let cell : i + 48 * few + 48 * m + j ≡ a = omega (arith, here) in
          let seal : number + 48 * few + 48 * m + j ≡ n = omega (arith, here) in
          let last : m < length ys = omega (arith, lt, long, here, length-append xs ys) in
          let slot = get_or (get_or ys m []) j [] in
          subst (λ (row : List (List ℕ)). IsSlotSealed keys (base + a) generation n (plain a) (get_or row j [])) (sym (get_or-append_right xs ys few k [] long le))
          (subst (λ (x : ℕ). IsSlotSealed keys (base + a) generation x (plain a) slot) seal
          (subst (λ (x : ℕ). IsSlotSealed keys (base + x) generation (number + 48 * few + 48 * m + j) (plain x) slot) cell
          (back m last j low (omega (arith, within, cell)))))
          )
    ]
