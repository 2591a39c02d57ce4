-- How many indexes the final lifts pick.
use Rattle.std.specs.Prelude.{◌≡◌, ℕ, ◌+◌, ◌*◌, ◌≤◌, Bool, true, false, cond, List, [], ◌∷◌, map, take, length}
use Rattle.std.specs.List.{flat_map, range_with_len}
use Rattle.std.proofs.Common.{zero, suc, arith, refl, sym, ap, ◌∙◌, subst, length-append}
use Rattle.ob_base.specs.declared.params.Params.{Params}
use Rattle.ob_base.specs.Planned.{most_jobs}
use Rattle.ob_base.specs.Tree.{below, bucket_of, path, reversed}
use Rattle.ob_ring.proofs.Rooms.{lifts_most}
use Rattle.ob_ring.specs.FlatTable.{FlatTable, lift, lift_order}
use Rattle.ob_ring.specs.Picked.{Picked, final_picked, holder, lift_picked}
use Rattle.ob_schedule.specs.Paths.{eviction_path}

length-map : {X Y : Type 0} (f : X → Y) (xs : List X) → length (map f xs) ≡ length xs
length-map f [] = refl
length-map f (x ∷ xs) = ap suc (length-map f xs)

few_taken : {X : Type 0} (n : ℕ) (xs : List X) → length (take n xs) ≤ n
few_taken zero xs = omega arith
few_taken (suc n) [] = omega arith
few_taken (suc n) (x ∷ xs) = let few = few_taken n xs in omega arith

lift_few : (p : Params) (t : FlatTable) (u : ℕ) → length (lift_picked p t u) ≤ p.real
lift_few p t u = subst (λ n. n ≤ p.real) (sym (length-map (λ j. record { bucket = u; index = j; key = holder p t u j }) (lift_order p t u))) (few_taken p.real _)

either_few : (n : ℕ) (b : Bool) (xs ys : List Picked) → length xs ≤ n → length ys ≤ n → length (cond b xs ys) ≤ n
either_few n true xs ys a b = a
either_few n false xs ys a b = b

finals_few : (p : Params) (t : FlatTable) (us : List ℕ) → length (final_picked p t us) ≤ length us * p.real
finals_few p t [] = omega arith
finals_few p t (u ∷ us) =
    let next : FlatTable = cond (t.lifted u) t (lift t u) in
    let first : List Picked = cond (t.lifted u) [] (lift_picked p t u) in
    let one : length first ≤ p.real = either_few p.real (t.lifted u) [] (lift_picked p t u) (omega arith) (lift_few p t u) in
    let rest = finals_few p next us in
    let both = length-append first (final_picked p next us) in
    omega arith

length-range : (a n : ℕ) → length (range_with_len a n) ≡ n
length-range a zero = refl
length-range a (suc n) = ap suc (length-range (a + 1) n)

path_long : (p : Params) (leaf : ℕ) → length (path p leaf) ≡ p.levels + 1
path_long p leaf = length-map (λ level. bucket_of p level leaf) (below (p.levels + 1)) ∙ length-range 0 (p.levels + 1)

paths_long : (p : Params) (leaf : ℕ → ℕ) (xs : List ℕ) → length (flat_map (λ i. path p (leaf i)) xs) ≡ length xs * (p.levels + 1)
paths_long p leaf [] = omega arith
paths_long p leaf (x ∷ xs) =
    let rest = paths_long p leaf xs in
    let one = path_long p (leaf x) in
    let both = length-append (path p (leaf x)) (flat_map (λ i. path p (leaf i)) xs) in
    omega arith

times : (a b c : ℕ) → a * b * c ≡ a * (b * c)
times a b c = grind arith

-- there is room for the jobs of the final lifts
pub lifts_few : (p : Params) (t : FlatTable) → length (final_picked p t (eviction_path p t.counter)) ≤ most_jobs p
lifts_few p t =
    let few = finals_few p t (eviction_path p t.counter) in
    let long : length (eviction_path p t.counter) ≡ p.evictions * (p.levels + 1) = paths_long p (λ i. reversed p.levels (t.counter + i)) (below p.evictions) ∙ ap (λ n. n * (p.levels + 1)) (length-range 0 p.evictions) in
    let all : length (final_picked p t (eviction_path p t.counter)) ≤ p.evictions * (p.levels + 1) * p.real = subst (λ n. length (final_picked p t (eviction_path p t.counter)) ≤ n * p.real) long few in
    let most = lifts_most p p.evictions (omega arith) in
    let same = times p.evictions (p.levels + 1) p.real in
    omega arith
