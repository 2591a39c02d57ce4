-- No pad is used twice, and lives go on.
use Rattle.std.specs.Prelude.{◌≡◌, ℕ, ◌+◌, ◌<◌, ◌≤◌, List, [], ◌∷◌, ◌++◌, map}
use Rattle.std.specs.List.{range_with_len}
use Rattle.std.proofs.Common.{zero, suc, arith, sym, ap, inl, inr}
use Rattle.ob_base.specs.declared.params.Params.{Params}
use Rattle.ob_base.specs.Tree.{below}
use Rattle.ob_recover.specs.Life.{WordId, LifeState, LifeAct, life_step, reached, IsLife}
use Rattle.ob_recover.specs.Calls.{RunSeals, pads_of, AreRising}
use Rattle.ob_base.proofs.Repeats.{has_cases}
use Rattle.ob_base.specs.Repeats.{Has, NoRepeats}

in_run : (g a n : ℕ) (x : ℕ × ℕ) → Has (map (λ m. (g, m)) (range_with_len a n)) x → (x.0 ≡ g) × (a ≤ x.1)
in_run g a zero x h = absurd h
in_run g a (suc n) x (inl e) = (ap (λ (y : ℕ × ℕ). y.0) (sym e), (let z : a ≡ x.1 = ap (λ (y : ℕ × ℕ). y.1) e in omega arith))
in_run g a (suc n) x (inr h) = (let r : (x.0 ≡ g) × (a + 1 ≤ x.1) = in_run g (a + 1) n x h in (r.0, omega (arith, r.1)))

later_run : (g : ℕ) (runs : List RunSeals) (x : ℕ × ℕ) → AreRising g runs → Has (pads_of runs) x → g < x.0
later_run g [] x rise h = absurd h
later_run g (r ∷ runs) x rise h = elim (has_cases (map (λ n. (r.generation, n)) (below r.sealed)) (pads_of runs) x h) [
  | inl here ↦ (let e : x.0 ≡ r.generation = (in_run r.generation 0 r.sealed x here).0 in omega (arith, rise.0))
  | inr there ↦ omega (arith, rise.0, later_run r.generation runs x rise.1 there)
]

run_first : (g a n : ℕ) (rest : List (ℕ × ℕ)) → ((x : ℕ × ℕ) → Has rest x → g < x.0) → NoRepeats rest → NoRepeats (map (λ m. (g, m)) (range_with_len a n) ++ rest)
run_first g a zero rest far d = d
run_first g a (suc n) rest far d = (
  (λ h. elim (has_cases (map (λ m. (g, m)) (range_with_len (a + 1) n)) rest (g, a) h) [
    | inl here ↦ (let r : a + 1 ≤ a = (in_run g (a + 1) n (g, a) here).1 in omega arith)
    | inr there ↦ (let r : g < g = far (g, a) there in omega arith)
  ]),
  run_first g (a + 1) n rest far d,
)

pub pads_differ : (g : ℕ) (runs : List RunSeals) → AreRising g runs → NoRepeats (pads_of runs)
pads_differ g [] rise = tt
pads_differ g (r ∷ runs) rise = run_first r.generation 0 r.sealed (pads_of runs) (λ x. later_run r.generation runs x rise.1) (pads_differ r.generation runs rise.1)

module _ (p : Params) (word_of : WordId → ℕ) where
  -- a life goes on by a call's acts
  pub life_goes_on : (s : LifeState) (xs ys : List LifeAct) → IsLife p word_of s xs → IsLife p word_of (reached p word_of s xs) ys → IsLife p word_of s (xs ++ ys)
  life_goes_on s [] ys a b = b
  life_goes_on s (x ∷ xs) ys a b = (a.0, life_goes_on (life_step p word_of s x) xs ys a.1 b)
