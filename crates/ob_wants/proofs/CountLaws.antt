-- How often paths pass the buckets of a tree, with one label more.
use Rattle.std.specs.Prelude.{◌≡◌, ◌<◌, ℕ, ◌+◌, ◌-◌, ◌/◌, ◌^◌, ◌==◌, cond, List, [], ◌∷◌, ◌++◌, map, length, replicate, get_or, slice_index, count_by}
use Rattle.std.specs.List.{list_any}
use Rattle.std.proofs.Common.{refl, sym, ap, ◌∙◌, arith}
use Rattle.std.proofs.lemmas.List.{get_or_default, get_or-replicate, length-replicate}
use Rattle.std.proofs.lemmas.List.Sums.{count_by-le-length}
use Rattle.ob_base.specs.declared.params.Params.{Params}
use Rattle.ob_base.specs.Tree.{below, passes}
use Rattle.ob_wants.specs.Counted.{AreCounted}
use Rattle.ob_wants.proofs.TotalLaws.{count_behind}

-- a path is told by the tree's levels
same_tree : (p q : Params) (u leaf : ℕ) → p.levels ≡ q.levels → passes p u leaf ≡ passes q u leaf
same_tree p q u leaf same = ap (λ (l : ℕ). list_any (λ v. v == u) (map (λ level. (2 ^ level - 1) + leaf / 2 ^ (l - level)) (below (l + 1)))) same

pub counted_more : (p : Params) (levels leaf : ℕ) (leaves old new : List ℕ) → levels ≡ p.levels → length new ≡ length old → ((u : ℕ) → u < length old → slice_index new u ≡ slice_index old u + cond (passes p u leaf) 1 0)
    → AreCounted levels leaves old → AreCounted levels (leaves ++ leaf ∷ []) new
counted_more p levels leaf leaves old new same many more told q is u lt =
    let before : slice_index old u ≡ count_by (passes q u) leaves = told q is u (omega (arith, lt, many)) in
    let tree : passes p u leaf ≡ passes q u leaf = same_tree p q u leaf (sym same ∙ sym is) in
    more u (omega (arith, lt, many)) ∙ (λ j. before j + cond (tree j) 1 0) ∙ sym (count_behind (passes q u) leaves leaf)

pub counted_few : (p : Params) (levels : ℕ) (leaves passed : List ℕ) (u : ℕ) → AreCounted levels leaves passed → levels ≡ p.levels → u < length passed → length leaves < 2 ^ 63 → slice_index passed u < 2 ^ 63
counted_few p levels leaves passed u told same lt few = omega (arith, told p (sym same) u lt, count_by-le-length (passes p u) leaves, few)

pub counted_at : (p : Params) (levels : ℕ) (leaves known passed : List ℕ) (u value : ℕ) → AreCounted levels leaves passed → levels ≡ p.levels → leaves ≡ known → u < length passed → value ≡ get_or passed u value → value ≡ count_by (passes p u) known
counted_at p levels leaves known passed u value told same is lt read = read ∙ get_or_default passed u value 0 lt ∙ told p (sym same) u lt ∙ ap (count_by (passes p u)) is

pub many_few : (p : Params) (leaves known : List ℕ) (u value : ℕ) → value ≡ count_by (passes p u) known → leaves ≡ known → length leaves < 2 ^ 63 → value < 2 ^ 63
many_few p leaves known u value many is few = omega (arith, many, count_by-le-length (passes p u) known, ap (λ (ls : List ℕ). length ls) is, few)

pub none_counted : (p : Params) (leaves passed : List ℕ) (u n : ℕ) → passed ≡ replicate n 0 → leaves ≡ [] → u < length passed → slice_index passed u ≡ count_by (passes p u) leaves
none_counted p leaves passed u n none is lt =
    let within : u < n = omega (arith, lt, ap (λ (ts : List ℕ). length ts) none, length-replicate {A = ℕ} n 0) in
    ap (λ (ts : List ℕ). slice_index ts u) none ∙ get_or-replicate n u 0 0 within ∙ ap (count_by (passes p u)) (sym is)

pub no_labels : (leaves : List ℕ) → length leaves ≡ 0 → leaves ≡ []
no_labels [] none = refl
no_labels (leaf ∷ leaves) none = absurd (omega (arith, none))
