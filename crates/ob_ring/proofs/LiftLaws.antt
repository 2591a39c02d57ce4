-- Buckets that are read out one after another.
use Rattle.std.specs.Prelude.{◌≡◌, ℕ, ◌+◌, Bool, true, false, cond, List, [], ◌∷◌, ◌++◌}
use Rattle.std.specs.List.{flat_map}
use Rattle.std.proofs.Common.{suc, arith, refl, sym, ap, ◌∙◌}
use Rattle.ob_base.specs.declared.params.Params.{Params}
use Rattle.ob_base.specs.Tree.{path, below, reversed}
use Rattle.ob_base.specs.Planned.{Planned}
use Rattle.ob_tables.specs.Buckets.{Buckets, is_lifted}
use Rattle.ob_tables.proofs.Counting.{range_more}
use Rattle.ob_ring.specs.FlatTable.{FlatTable, lift, after_final}
use Rattle.ob_ring.specs.Arrays.{AreWhole}
use Rattle.ob_ring.specs.Picked.{Picked, Plans, lift_picked, final_picked}
use Rattle.ob_ring.proofs.Appends.{append_more, append_none}
use Rattle.ob_ring.proofs.PlanLaws.{plans_like, plans_then, plans_none}

turn_case : (p : Params) (t : FlatTable) (u : ℕ) (b : Bool) → t.lifted u ≡ b → b ≡ true → ([] ≡ final_picked p t (u ∷ [])) × (t ≡ after_final p t (u ∷ []))
turn_case p t u b is on = (rw (is, on) refl, rw (is, on) refl)

pub lifted_already : (p : Params) (s : Buckets) (jobs : Planned) (u : ℕ) → AreWhole p s → is_lifted s u ≡ true → Plans p s s jobs jobs (λ t. final_picked p t (u ∷ [])) (λ t. after_final p t (u ∷ []))
lifted_already p s jobs u whole up =
    plans_like p s s jobs jobs (λ t. []) (λ t. final_picked p t (u ∷ [])) (λ t. t) (λ t. after_final p t (u ∷ [])) (plans_none p s jobs whole)
    (λ r t is. turn_case p t u (is_lifted s u) (is.lifted_is u) up)

pub lifted_now : (p : Params) (s new : Buckets) (before now : Planned) (u : ℕ) → is_lifted s u ≡ false → Plans p s new before now (λ t. lift_picked p t u) (λ t. lift t u) → Plans p s new before now (λ t. final_picked p t (u ∷ [])) (λ t. after_final p t (u ∷ []))
lifted_now p s new before now u down plans =
    plans_like p s new before now (λ t. lift_picked p t u) (λ t. final_picked p t (u ∷ [])) (λ t. lift t u) (λ t. after_final p t (u ∷ [])) plans
    (λ r t is. (let off : t.lifted u ≡ false = is.lifted_is u ∙ down in (rw off (sym (append_none (lift_picked p t u))), rw off refl)))

pub final_both : (p : Params) (t : FlatTable) (us vs : List ℕ) → after_final p t (us ++ vs) ≡ after_final p (after_final p t us) vs
final_both p t [] vs = refl
final_both p t (u ∷ us) vs = final_both p (cond (t.lifted u) t (lift t u)) us vs

pub final_picked_both : (p : Params) (t : FlatTable) (us vs : List ℕ) → final_picked p t (us ++ vs) ≡ final_picked p t us ++ final_picked p (after_final p t us) vs
final_picked_both p t [] vs = refl
final_picked_both p t (u ∷ us) vs =
    let t1 : FlatTable = cond (t.lifted u) t (lift t u) in
    let one : List Picked = cond (t.lifted u) [] (lift_picked p t u) in
    ap (λ (qs : List Picked). one ++ qs) (final_picked_both p t1 us vs) ∙ sym (append_more one (final_picked p t1 us) (final_picked p (after_final p t1 us) vs))

pub finals_then : (p : Params) (old mid new : Buckets) (before middle now : Planned) (us vs all : List ℕ) → all ≡ us ++ vs → Plans p old mid before middle (λ t. final_picked p t us) (λ t. after_final p t us) → Plans p mid new middle now
    (λ t. final_picked p t vs) (λ t. after_final p t vs) → Plans p old new before now (λ t. final_picked p t all) (λ t. after_final p t all)
finals_then p old mid new before middle now us vs all e a b =
    plans_like p old new before now (λ t. final_picked p t us ++ final_picked p (after_final p t us) vs) (λ t. final_picked p t all) (λ t. after_final p (after_final p t us) vs) (λ t. after_final p t all)
    (plans_then p old mid new before middle now (λ t. final_picked p t us) (λ t. final_picked p t vs) (λ t. after_final p t us) (λ t. after_final p t vs) a b)
    (λ r t is. (sym (ap (final_picked p t) e ∙ final_picked_both p t us vs), sym (ap (after_final p t) e ∙ final_both p t us vs)))

-- the buckets of the first n evicted paths
abbrev pub evicted_to : Params → ℕ → ℕ → List ℕ
evicted_to p counter n = flat_map (λ i. path p (reversed p.levels (counter + i))) (below n)

flat_both : (f : ℕ → List ℕ) (xs ys : List ℕ) → flat_map f (xs ++ ys) ≡ flat_map f xs ++ flat_map f ys
flat_both f [] ys = refl
flat_both f (x ∷ xs) ys = ap (λ zs. f x ++ zs) (flat_both f xs ys) ∙ sym (append_more (f x) (flat_map f xs) (flat_map f ys))

pub evicted_more : (p : Params) (counter n : ℕ) → evicted_to p counter (n + 1) ≡ evicted_to p counter n ++ path p (reversed p.levels (counter + n))
evicted_more p counter n =
    let f : ℕ → List ℕ = λ i. path p (reversed p.levels (counter + i)) in
    ap (λ (m : ℕ). flat_map f (below m)) (let z : n + 1 ≡ suc n = omega arith in z) ∙ ap (flat_map f) (range_more 0 n n (omega arith)) ∙ flat_both f (below n) (n ∷ []) ∙ ap (λ zs. flat_map f (below n) ++ zs) (append_none (f n))
