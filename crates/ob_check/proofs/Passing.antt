-- What a test that passes says.
use Rattle.std.specs.Prelude.{◌≡◌, ◌≢◌, ◌<◌, ◌≤◌, ◌⊎◌, ℕ, ◌==◌, nat_le, nat_lt, Bool, true, false, not, ◌&&◌, ◌||◌}
use Rattle.std.proofs.Common.{arith, refl, inl, inr}
use Rattle.std.proofs.lemmas.Bool.{true≢false, false≢true}
use Rattle.std.proofs.lemmas.Bool.Decides.{nat_tests}

pub both : (a b : Bool) → (a && b) ≡ true → (a ≡ true) × (b ≡ true)
both true b e = (refl, e)
both false b e = absurd (false≢true e)

pub either : (a b : Bool) → (a || b) ≡ true → (a ≡ true) ⊎ (b ≡ true)
either true b e = inl refl
either false b e = inr e

pub off : (b : Bool) → not b ≡ true → b ≡ false
off true e = absurd (false≢true e)
off false e = refl

pub on_off : (b : Bool) → b ≡ true → b ≡ false → ⊥
on_off b on off = absurd (lemma b on off)
  where
    lemma : (c : Bool) → c ≡ true → c ≡ false → ⊥
    lemma true e f = true≢false f
    lemma false e f = false≢true e

pub le_from : (x k : ℕ) → nat_le x k ≡ true → x ≤ k
le_from x k h = grind (arith, nat_tests)

pub lt_from : (x k : ℕ) → nat_lt x k ≡ true → x < k
lt_from x k h = grind (arith, nat_tests)

pub eq_from : (x k : ℕ) → (x == k) ≡ true → x ≡ k
eq_from x k h = grind (arith, nat_tests)

pub ne_from : (x k : ℕ) → (x == k) ≡ false → x ≢ k
ne_from x k h = grind (arith, nat_tests)

pub lt_to : (x k : ℕ) → x < k → nat_lt x k ≡ true
lt_to x k h = grind (arith, nat_tests)
