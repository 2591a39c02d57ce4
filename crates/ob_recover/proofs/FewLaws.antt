-- How many indexes a batch picks.
use Rattle.std.specs.Prelude.{◌≡◌, ℕ, ◌+◌, ◌*◌, ◌≤◌, ◌==◌, Bool, true, false, cond, List, [], ◌∷◌, map, take, length, Option}
use Rattle.std.specs.List.{range_with_len}
use Rattle.std.proofs.Common.{zero, suc, arith, refl, sym, ap, ◌∙◌, subst, length-append}
use Rattle.ob_base.specs.declared.params.Params.{Params}
use Rattle.ob_base.specs.Planned.{most_jobs}
use Rattle.ob_base.specs.Tree.{path, below, bucket_of}
use Rattle.ob_ring.specs.FlatTable.{FlatTable, Spot, asked_row, after_place, fetch, index_in, index_shown, leaf_shown, lift_order, mark_index, reads, spot_of, visit}
use Rattle.ob_ring.specs.Picked.{Picked, batch_picked, holder, key_shown, lift_picked, place_picked, visit_picked, visits_picked}
use Rattle.ob_ring.proofs.Rooms.{batch_room}

length-map : {X Y : Type 0} (f : X → Y) (xs : List X) → length (map f xs) ≡ length xs
length-map f [] = refl
length-map f (x ∷ xs) = ap suc (length-map f xs)

few_taken : {X : Type 0} (n : ℕ) (xs : List X) → length (take n xs) ≤ n
few_taken zero xs = omega arith
few_taken (suc n) [] = omega arith
few_taken (suc n) (x ∷ xs) = let few = few_taken n xs in omega arith

lift_few : (p : Params) (t : FlatTable) (u : ℕ) → length (lift_picked p t u) ≤ p.real
lift_few p t u = subst (λ n. n ≤ p.real) (sym (length-map (λ j. record { bucket = u; index = j; key = holder p t u j }) (lift_order p t u))) (few_taken p.real _)

either_few : (n : ℕ) (b : Bool) (xs ys : List Picked) → length xs ≤ n → length ys ≤ n → length (cond b xs ys) ≤ n
either_few n true xs ys a b = a
either_few n false xs ys a b = b

visit_few : (p : Params) (t : FlatTable) (ask : Option ℕ) (own : Spot) (u : ℕ) → length (visit_picked p t ask own u) ≤ p.real + 1
visit_few p t ask own u =
    let j : ℕ = index_shown p t own u in
    let rest : List Picked = cond (reads p t u + 1 == p.dummies) (lift_picked p (mark_index t u j) u) [] in
    let few : length rest ≤ p.real = either_few p.real (reads p t u + 1 == p.dummies) (lift_picked p (mark_index t u j) u) [] (lift_few p (mark_index t u j) u) (omega arith) in
    either_few (p.real + 1) (t.lifted u) [] (record { bucket = u; index = j; key = key_shown ask (index_in u own) } ∷ rest) (omega arith) (omega arith)

visits_few : (p : Params) (t : FlatTable) (ask : Option ℕ) (own : Spot) (us : List ℕ) → length (visits_picked p t ask own us) ≤ length us * (p.real + 1)
visits_few p t ask own [] = omega arith
visits_few p t ask own (u ∷ us) =
    let one = visit_few p t ask own u in
    let rest = visits_few p (visit p t own u) ask own us in
    let both = length-append (visit_picked p t ask own u) (visits_picked p (visit p t own u) ask own us) in
    omega arith

length-range : (a n : ℕ) → length (range_with_len a n) ≡ n
length-range a zero = refl
length-range a (suc n) = ap suc (length-range (a + 1) n)

path_long : (p : Params) (leaf : ℕ) → length (path p leaf) ≡ p.levels + 1
path_long p leaf = length-map (λ level. bucket_of p level leaf) (below (p.levels + 1)) ∙ length-range 0 (p.levels + 1)

place_few : (p : Params) (t : FlatTable) (ask : Option ℕ) (leaf : ℕ) → length (place_picked p t ask leaf) ≤ (p.levels + 1) * (p.real + 1)
place_few p t ask leaf =
    subst (λ n. length (place_picked p t ask leaf) ≤ n * (p.real + 1)) (path_long p (leaf_shown t ask leaf))
    (visits_few p (fetch t ask leaf) ask (spot_of (asked_row t ask)) (path p (leaf_shown t ask leaf)))

pub picked_few : (p : Params) (t : FlatTable) (asked : List (Option ℕ × ℕ)) → length (batch_picked p t asked) ≤ length asked * ((p.levels + 1) * (p.real + 1))
picked_few p t [] = omega arith
picked_few p t (a ∷ asked) =
    let one = place_few p t a.0 a.1 in
    let rest = picked_few p (after_place p t a.0 a.1) asked in
    let both = length-append (place_picked p t a.0 a.1) (batch_picked p (after_place p t a.0 a.1) asked) in
    omega arith

-- there is room for the jobs of a batch
pub jobs_few : (p : Params) (t : FlatTable) (asked : List (Option ℕ × ℕ)) → length asked ≡ p.places → length (batch_picked p t asked) ≤ most_jobs p
jobs_few p t [] many = omega arith
jobs_few p t (a ∷ asked) many =
    let few = picked_few p t (a ∷ asked) in
    let room = batch_room p (length asked) (omega arith) in
    omega arith
