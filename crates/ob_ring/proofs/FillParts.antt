-- Which buckets a path passes.
use Rattle.std.specs.Prelude.{◌≡◌, ℕ, ◌+◌, ◌<◌, ◌≤◌, ◌==◌, Bool, true, false, ◌||◌, List, [], ◌∷◌, map}
use Rattle.std.specs.List.{range_with_len}
use Rattle.std.proofs.Common.{zero, suc, arith, ap, ◌∙◌, inl, inr}
use Rattle.std.proofs.lemmas.Bool.{cases_eq, eq-eqb, or_left, or_right}
use Rattle.ob_base.specs.declared.params.Params.{Params}
use Rattle.ob_base.specs.Tree.{bucket_of, passes}
use Rattle.ob_schedule.specs.Paths.{is_one_of}
use Rattle.ob_ring.proofs.Members.{one_of-append}
use Rattle.ob_ring.proofs.PathLaws.{path_to, path_more}

any_map : (f : ℕ → ℕ) (u a n k : ℕ) → a ≤ k → k < a + n → f k ≡ u → is_one_of (map f (range_with_len a n)) u ≡ true
any_map f u a zero k h g e = absurd (omega arith)
any_map f u a (suc n) k h g e = elim (cases_eq a k) [
  | inl at ↦ or_left (f a == u) (is_one_of (map f (range_with_len (a + 1) n)) u) (eq-eqb (f a) u (ap f at ∙ e))
  | inr ne ↦ or_right (f a == u) (is_one_of (map f (range_with_len (a + 1) n)) u) (any_map f u (a + 1) n k (omega arith) (omega arith) e)
]

pub passes_at : (p : Params) (u leaf level : ℕ) → level ≤ p.levels → bucket_of p level leaf ≡ u → passes p u leaf ≡ true
passes_at p u leaf level h e = any_map (λ i. bucket_of p i leaf) u 0 (p.levels + 1) level (omega arith) (omega arith) e

none_more : (a b : Bool) → a ≡ false → b ≡ false → (a || (b || false)) ≡ false
none_more a b e f = (λ i. e i || (f i || false))

pub passes_none : (p : Params) (u leaf n : ℕ) → is_one_of (path_to p leaf n) u ≡ false → (bucket_of p n leaf == u) ≡ false → is_one_of (path_to p leaf (n + 1)) u ≡ false
passes_none p u leaf n before here = ap (λ (xs : List ℕ). is_one_of xs u) (path_more p leaf n) ∙ one_of-append (path_to p leaf n) (bucket_of p n leaf ∷ []) u ∙ none_more (is_one_of (path_to p leaf n) u) (bucket_of p n leaf == u) before here
