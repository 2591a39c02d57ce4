-- The buckets of a path differ.
use Rattle.std.specs.Prelude.{◌≡◌, ℕ, ◌+◌, ◌-◌, ◌/◌, ◌^◌, ◌<◌, ◌≤◌, ◌==◌, true, map}
use Rattle.std.specs.List.{range_with_len}
use Rattle.std.proofs.Common.{zero, suc, add-one, arith, inl, inr}
use Rattle.std.proofs.lemmas.Bool.{false≢true, eqb-true, or_cases}
use Rattle.std.proofs.lemmas.Nat.{le-div, pow_pos}
use Rattle.std.proofs.Math.Nat.{div-mul-le_self, mul-le-mul_left, two-pow-succ, pow-le-pow_right}
use Rattle.ob_base.specs.declared.params.Params.{Params}
use Rattle.ob_base.specs.Tree.{bucket_of, path}
use Rattle.ob_schedule.specs.Paths.{is_one_of}
use Rattle.ob_ring.proofs.Members.{IsDistinct, off_unless}

falling_div : (x d e : ℕ) → 0 < d → d ≤ e → x / e ≤ x / d
falling_div x d e h k = le-div (x / e) x d h (omega (arith, mul-le-mul_left (x / e) k, div-mul-le_self x e))

pub bucket_rises : (p : Params) (leaf level : ℕ) → bucket_of p level leaf < bucket_of p (level + 1) leaf
bucket_rises p leaf level =
    let h : leaf / 2 ^ (p.levels - level) ≤ leaf / 2 ^ (p.levels - (level + 1)) =
    falling_div leaf (2 ^ (p.levels - (level + 1))) (2 ^ (p.levels - level)) (pow_pos (p.levels - (level + 1))) (pow-le-pow_right (omega arith) (omega arith)) in
    let twice : 2 ^ (level + 1) ≡ 2 ^ level + 2 ^ level = rw add-one (two-pow-succ level) in
    omega (arith, pow_pos level)

module _ (f : ℕ → ℕ) (rises : (n : ℕ) → f n < f (n + 1)) where
  from_first : (a n k : ℕ) → is_one_of (map f (range_with_len a n)) k ≡ true → f a ≤ k
  from_first a zero k e = absurd (false≢true e)
  from_first a (suc n) k e = elim (or_cases (f a == k) (is_one_of (map f (range_with_len (a + 1) n)) k) e) [
    | inl at ↦ (let same : f a ≡ k = eqb-true (f a) k at in omega arith)
    | inr off ↦ omega (arith, rises a, from_first (a + 1) n k off)
  ]

  pub distinct-rising : (a n : ℕ) → IsDistinct (map f (range_with_len a n))
  distinct-rising a zero = tt
  distinct-rising a (suc n) = (off_unless (is_one_of (map f (range_with_len (a + 1) n)) (f a)) (λ e. omega (arith, rises a, from_first (a + 1) n (f a) e)), distinct-rising (a + 1) n)

pub distinct_path : (p : Params) (leaf : ℕ) → IsDistinct (path p leaf)
distinct_path p leaf = distinct-rising (λ level. bucket_of p level leaf) (bucket_rises p leaf) 0 (p.levels + 1)
