-- What a refill leaves.
use Rattle.std.specs.Prelude.{◌≡◌, ℕ, ◌+◌, ◌-◌, ◌^◌, ◌<◌, ◌≤◌, ◌==◌, Bool, true, false, not, ◌&&◌, ◌||◌, List, [], ◌∷◌, Option}
use Rattle.std.specs.List.{range_with_len}
use Rattle.std.proofs.Common.{zero, suc, arith, refl, sym, ap, ◌∙◌, inl, inr}
use Rattle.std.proofs.lemmas.Bool.{true≢false, false≢true, eq-eqb, ne_eqb, cases_lt, cases_eq, or_left, or_right, or_cases, and_from}
use Rattle.std.proofs.lemmas.Nat.{pow_pos}
use Rattle.std.proofs.Math.Nat.{two-pow-succ}
use Rattle.ob_base.specs.declared.params.Params.{Params}
use Rattle.ob_schedule.specs.Paths.{is_one_of, by_falling_level}
use Rattle.ob_ring.specs.FlatTable.{FlatTable, fill, fills, refill_order, write, after_writes}
use Rattle.ob_ring.proofs.Members.{IsDistinct, one_of-append, one_of-range, distinct-range, distinct-filter, distinct-append, off_unless, one_of-filter}
use Rattle.ob_ring.specs.Sound.{IsSound}
use Rattle.ob_ring.proofs.Sounds.{sound_write}
use Rattle.ob_ring.proofs.Fills.{sound_fill}

pub sound_writes : (p : Params) (t : FlatTable) (ws : List (ℕ × Option ℕ)) → IsSound p t → IsSound p (after_writes t ws)
sound_writes p t [] s = s
sound_writes p t (w ∷ ws) s = sound_writes p (write t w.0 w.1) ws (sound_write p t w.0 w.1 s)

pub writes_keep : (t : FlatTable) (ws : List (ℕ × Option ℕ)) → ((after_writes t ws).used ≡ t.used) × ((after_writes t ws).lifted ≡ t.lifted)
writes_keep t [] = (refl, refl)
writes_keep t (w ∷ ws) = writes_keep (write t w.0 w.1) ws

pub in_range : (a n k : ℕ) → a ≤ k → k < a + n → is_one_of (range_with_len a n) k ≡ true
in_range a zero k h g = absurd (omega arith)
in_range a (suc n) k h g = elim (cases_eq a k) [
  | inl at ↦ or_left (a == k) (is_one_of (range_with_len (a + 1) n) k) (eq-eqb a k at)
  | inr ne ↦ or_right (a == k) (is_one_of (range_with_len (a + 1) n) k) (in_range (a + 1) n k (omega arith) (omega arith))
]

one_level_more : (n : ℕ) → 2 ^ suc n ≡ 2 ^ n + 2 ^ n
one_level_more n = two-pow-succ n

pub of_levels : (n u : ℕ) → is_one_of (by_falling_level n) u ≡ true → u < 2 ^ n - 1
of_levels zero u e = absurd (false≢true e)
of_levels (suc n) u e = elim (or_cases (is_one_of (range_with_len (2 ^ n - 1) (2 ^ n)) u) (is_one_of (by_falling_level n) u) (sym (one_of-append (range_with_len (2 ^ n - 1) (2 ^ n)) (by_falling_level n) u) ∙ e)) [
  | inl here ↦ (let h : (2 ^ n - 1 ≤ u) × (u < (2 ^ n - 1) + 2 ^ n) = one_of-range (2 ^ n - 1) (2 ^ n) u here in omega (arith, h.1, one_level_more n, pow_pos n))
  | inr above ↦ omega (arith, of_levels n u above, one_level_more n, pow_pos n)
]

pub in_levels : (n u : ℕ) → u < 2 ^ n - 1 → is_one_of (by_falling_level n) u ≡ true
in_levels zero u h = absurd (omega arith)
in_levels (suc n) u h = one_of-append (range_with_len (2 ^ n - 1) (2 ^ n)) (by_falling_level n) u ∙ elim (cases_lt u (2 ^ n - 1)) [
  | inl above ↦ or_right (is_one_of (range_with_len (2 ^ n - 1) (2 ^ n)) u) (is_one_of (by_falling_level n) u) (in_levels n u above)
  | inr here ↦ or_left (is_one_of (range_with_len (2 ^ n - 1) (2 ^ n)) u) (is_one_of (by_falling_level n) u) (in_range (2 ^ n - 1) (2 ^ n) u here (omega (arith, one_level_more n, pow_pos n)))
]

pub distinct_levels : (n : ℕ) → IsDistinct (by_falling_level n)
distinct_levels zero = tt
distinct_levels (suc n) = distinct-append (range_with_len (2 ^ n - 1) (2 ^ n)) (by_falling_level n) (distinct-range (2 ^ n - 1) (2 ^ n)) (distinct_levels n)
    (λ k on. off_unless (is_one_of (by_falling_level n) k) (λ e. (let h : 2 ^ n - 1 ≤ k = (one_of-range (2 ^ n - 1) (2 ^ n) k on).0 in let g : k < 2 ^ n - 1 = of_levels n k e in omega arith)))

pub record FillsLaw (p : Params) (t : FlatTable) (us : List ℕ) : Type 0 where
  pub sound : IsSound p (fills p t us)
  pub used_is : (v j : ℕ) → (fills p t us).used v j ≡ (not (is_one_of us v) && t.used v j)
  pub lifted_is : (v : ℕ) → (fills p t us).lifted v ≡ (not (is_one_of us v) && t.lifted v)

and_false : (a : Bool) → (a && false) ≡ false
and_false true = refl
and_false false = refl

cleared : (u v : ℕ) (a b : Bool) → (not a && (not (v == u) && b)) ≡ (not ((u == v) || a) && b)
cleared u v a b = elim (cases_eq v u) [
  | inl same ↦ rw (same, eq-eqb u u refl) (and_false (not a))
  | inr ne ↦ rw (ne_eqb v u ne, ne_eqb u v (λ e. ne (sym e))) refl
]

pub fills_law : (p : Params) (t : FlatTable) (us : List ℕ) → IsDistinct us → ((u : ℕ) → is_one_of us u ≡ true → t.lifted u ≡ true) → IsSound p t → FillsLaw p t us
fills_law p t [] d up s = record { sound = s; used_is = λ v j. refl; lifted_is = λ v. refl }
fills_law p t (u ∷ us) d up s =
    let rest : FillsLaw p (fill p t u) us = fills_law p (fill p t u) us d.1
    (λ v on. and_from (not (v == u)) (t.lifted v) (rw (ne_eqb v u (λ e. true≢false (sym on ∙ ap (is_one_of us) e ∙ d.0))) refl) (up v (or_right (u == v) (is_one_of us v) on)))
    (sound_fill p t u (up u (or_left (u == u) (is_one_of us u) (eq-eqb u u refl))) s) in
    record {
      sound = rest.sound;
      used_is = λ v j. rest.used_is v j ∙ cleared u v (is_one_of us v) (t.used v j);
      lifted_is = λ v. rest.lifted_is v ∙ cleared u v (is_one_of us v) (t.lifted v);
    }

pub refill_law : (p : Params) (t : FlatTable) → IsSound p t → FillsLaw p t (refill_order p t)
refill_law p t s = fills_law p t (refill_order p t) (distinct-filter t.lifted (by_falling_level (p.levels + 1)) (distinct_levels (p.levels + 1)))
    (λ u on. (one_of-filter t.lifted (by_falling_level (p.levels + 1)) u on).0) s
