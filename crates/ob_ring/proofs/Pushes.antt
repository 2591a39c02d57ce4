-- One index more of a filtered range.
use Rattle.std.specs.Prelude.{◌≡◌, ℕ, ◌+◌, Bool, true, false, cond, List, [], ◌∷◌, ◌++◌, filter}
use Rattle.std.specs.List.{range_with_len}
use Rattle.std.proofs.Common.{suc, arith, sym, ap, subst, ◌∙◌}
use Rattle.std.proofs.lemmas.List.Elements.{filter-append}
use Rattle.ob_tables.proofs.Counting.{range_more}
use Rattle.ob_ring.proofs.Appends.{append_more, append_none}
use Rattle.ob_ring.specs.Order.{HoldsFirst}

last_of : (p : ℕ → Bool) (n : ℕ) (b : Bool) → p n ≡ b → filter p (n ∷ []) ≡ cond b (n ∷ []) []
last_of p n b e = ap (λ (c : Bool). cond c (n ∷ []) []) e

pub filter_range_more : (p : ℕ → Bool) (n : ℕ) (b : Bool) → p n ≡ b → filter p (range_with_len 0 (n + 1)) ≡ filter p (range_with_len 0 n) ++ cond b (n ∷ []) []
filter_range_more p n b e =
    ap (λ (m : ℕ). filter p (range_with_len 0 m)) (let z : n + 1 ≡ suc n = omega arith in z)
    ∙ ap (filter p) (range_more 0 n n (omega arith)) ∙ filter-append p (range_with_len 0 n) (n ∷ []) ∙ ap (λ (xs : List ℕ). filter p (range_with_len 0 n) ++ xs) (last_of p n b e)

pub holds_like : (out : List ℕ) (n limit : ℕ) (xs ys : List ℕ) → xs ≡ ys → HoldsFirst out n limit xs → HoldsFirst out n limit ys
holds_like out n limit xs ys e h = subst (λ (zs : List ℕ). HoldsFirst out n limit zs) e h

pub kept_same : (out : List ℕ) (n limit i : ℕ) (before : List ℕ) (p : ℕ → Bool) → p i ≡ false → HoldsFirst out n limit (before ++ filter p (range_with_len 0 i)) → HoldsFirst out n limit (before ++ filter p (range_with_len 0 (i + 1)))
kept_same out n limit i before p off h = holds_like out n limit _ _ (ap (λ (xs : List ℕ). before ++ xs) (sym (filter_range_more p i false off ∙ append_none (filter p (range_with_len 0 i))))) h

pub kept_more : (out : List ℕ) (n limit i : ℕ) (before : List ℕ) (p : ℕ → Bool) → p i ≡ true → HoldsFirst out n limit ((before ++ filter p (range_with_len 0 i)) ++ i ∷ []) → HoldsFirst out n limit (before ++ filter p (range_with_len 0 (i + 1)))
kept_more out n limit i before p on h = holds_like out n limit _ _ (append_more before (filter p (range_with_len 0 i)) (i ∷ []) ∙ ap (λ (xs : List ℕ). before ++ xs) (sym (filter_range_more p i true on))) h
