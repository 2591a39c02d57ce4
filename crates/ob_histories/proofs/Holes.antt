-- The holes of a place, and of an end, are new in their epoch.
use Rattle.std.specs.Prelude.{◌≡◌, ◌<◌, ◌≤◌, ℕ, ◌+◌, ◌-◌, ◌==◌, nat_lt, nat_le, Bool, true, false, not, cond, List, [], ◌∷◌, ◌++◌, map, filter, take, get_or, slice_index, length}
use Rattle.std.specs.List.{count_by, flat_map, range_with_len}
use Rattle.std.proofs.Common.{zero, suc, refl, sym, ap, ◌∙◌, subst, inl, inr, arith, append_assoc}
use Rattle.std.proofs.lemmas.Bool.{eq-eqb, eqb-true, le-leb, ltb-true, or_left, or_right}
use Rattle.std.proofs.lemmas.List.Folds.{list_any-append}
use Rattle.std.proofs.lemmas.List.FromFn.{length-map-range_with_len}
use Rattle.ob_base.specs.declared.params.Params.{Params}
use Rattle.ob_base.specs.Tree.{width, below, path, passes}
use Rattle.ob_schedule.specs.Holes.{Hole, lift_holes, visit_holes, place_holes, passes_before, firsts, final_holes}
use Rattle.ob_schedule.specs.Paths.{is_one_of, eviction_path}
use Rattle.ob_schedule.specs.Schedule.{counts_now, is_lifted_by_end, batch_leaves}
use Rattle.ob_histories.specs.Fills.{AllFills, public_at, public_in_epoch, fills_at, leaves_of_batches}
use Rattle.ob_histories.proofs.Lists.{count_one, count_more}
use Rattle.ob_histories.proofs.Standing.{IsHole}

abbrev pub AreHoles : Params → AllFills → ℕ → List Hole → Type 0
AreHoles p f epoch [] = Unit {0}
AreHoles p f epoch (h ∷ hs) = IsHole p f epoch h × AreHoles p f epoch hs

holes_joined : (p : Params) (f : AllFills) (epoch : ℕ) (xs ys : List Hole) → AreHoles p f epoch xs → AreHoles p f epoch ys → AreHoles p f epoch (xs ++ ys)
holes_joined p f epoch [] ys a b = b
holes_joined p f epoch (x ∷ xs) ys a b = (a.0, holes_joined p f epoch xs ys a.1 b)

-- each of these is among those
abbrev pub AllAmong : List ℕ → List ℕ → Type 0
AllAmong all [] = Unit {0}
AllAmong all (u ∷ us) = (is_one_of all u ≡ true) × AllAmong all us

all_among : (before us : List ℕ) → AllAmong (before ++ us) us
all_among before [] = tt
all_among before (u ∷ us) =
    let same : (u == u) ≡ true = eq-eqb u u refl in
    let here : is_one_of (before ++ u ∷ us) u ≡ true = list_any-append (λ v. v == u) before (u ∷ us) ∙ or_right (is_one_of before u) _ (or_left (u == u) _ same) in
    (here, subst (λ (all : List ℕ). AllAmong all us) (append_assoc before (u ∷ []) us) (all_among (before ++ u ∷ []) us))

kept_among : (all : List ℕ) (u : ℕ) (us : List ℕ) (b : Bool) → is_one_of all u ≡ true → AllAmong all us → AllAmong all (cond b (u ∷ us) us)
kept_among all u us true here rest = (here, rest)
kept_among all u us false here rest = rest

filtered_among : (all : List ℕ) (t : ℕ → Bool) (us : List ℕ) → AllAmong all us → AllAmong all (filter t us)
filtered_among all t [] are = tt
filtered_among all t (u ∷ us) are = kept_among all u (filter t us) (t u) are.0 (filtered_among all t us are.1)

firsts_among : (all us : List ℕ) → AllAmong all us → AllAmong all (firsts us)
firsts_among all [] are = tt
firsts_among all (u ∷ us) are = (are.0, filtered_among all (λ v. not (v == u)) (firsts us) (firsts_among all us are.1))

-- ---- a lift, and a visit

lift_range : (p : Params) (f : AllFills) (epoch u a n : ℕ) → is_lifted_by_end p (public_in_epoch p f epoch p.batches) u ≡ true → (public_at p f epoch).counts u ≤ a → a + n ≤ width p
    → AreHoles p f epoch (map (λ i. record { bucket = u; number = i }) (range_with_len a n))
lift_range p f epoch u a zero lifted new small = tt
lift_range p f epoch u a (suc n) lifted new small =
    (record { small = omega (arith, small); new = new; below = inl lifted }, lift_range p f epoch u (a + 1) n lifted (omega (arith, new)) (omega (arith, small)))

visit_are : (p : Params) (f : AllFills) (epoch u n : ℕ) → (public_at p f epoch).counts u ≤ n → n < counts_now p (public_in_epoch p f epoch p.batches) u → AreHoles p f epoch (visit_holes p u n)
visit_are p f epoch u n new more = go (nat_lt n p.dummies) refl
  where
    total : ℕ
    total = counts_now p (public_in_epoch p f epoch p.batches) u

    lift : (b : Bool) → (n + 1 == p.dummies) ≡ b → AreHoles p f epoch (cond b (lift_holes p u (n + 1)) [])
    lift true last =
        (let is : n + 1 ≡ p.dummies = eqb-true (n + 1) p.dummies last in
        let many : p.dummies ≤ counts_now p (public_in_epoch p f epoch p.batches) u = omega (arith, is, more) in
        let limit : nat_le p.dummies (counts_now p (public_in_epoch p f epoch p.batches) u) ≡ true = le-leb p.dummies (counts_now p (public_in_epoch p f epoch p.batches) u) many in
        lift_range p f epoch u (n + 1) p.real (or_right (is_one_of (eviction_path p (public_at p f epoch).counter) u) _ limit) (omega (arith, new)) (omega (arith, is)))
    lift false other = tt

    go : (b : Bool) → nat_lt n p.dummies ≡ b → AreHoles p f epoch (cond b (record { bucket = u; number = n } ∷ cond (n + 1 == p.dummies) (lift_holes p u (n + 1)) []) [])
    go true low = (let few : n < p.dummies = ltb-true n p.dummies low in (record { small = omega (arith, few); new = new; below = inr more }, lift (n + 1 == p.dummies) refl))
    go false high = tt

visits_are : (p : Params) (f : AllFills) (epoch leaf : ℕ) (count : ℕ → ℕ) (us : List ℕ) → AllAmong (path p leaf) us → ((u : ℕ) → (public_at p f epoch).counts u ≤ count u)
    → ((u : ℕ) → passes p u leaf ≡ true → count u < counts_now p (public_in_epoch p f epoch p.batches) u) → AreHoles p f epoch (flat_map (λ u. visit_holes p u (count u)) us)
visits_are p f epoch leaf count [] are new more = tt
visits_are p f epoch leaf count (u ∷ us) are new more =
    holes_joined p f epoch (visit_holes p u (count u)) _ (visit_are p f epoch u (count u) (new u) (more u are.0)) (visits_are p f epoch leaf count us are.1 new more)

-- ---- the leaves of an epoch count all that its places have shown

shown_more : {X : Type 0} (t : X → Bool) (xs : List X) (i : ℕ) (d : X) → i < length xs → t (get_or xs i d) ≡ true → suc (count_by t (take i xs)) ≤ count_by t xs
shown_more t [] i d lt yes_here = absurd (omega (arith, lt))
shown_more {X} t (x ∷ xs) zero d lt here = (let one : cond (t x) 1 0 ≡ 1 = ap (λ (b : Bool). cond {A = ℕ} b 1 0) here in omega (arith, count_one t x xs, one))
shown_more {X} t (x ∷ xs) (suc i) d lt here =
    let rest : suc (count_by t (take i xs)) ≤ count_by t xs = shown_more t xs i d (omega (arith, lt)) here in omega (arith, count_one t x xs, count_one t x (take i xs), rest)

batches_more : (p : Params) (f : AllFills) (epoch : ℕ) (t : ℕ → Bool) (b n : ℕ) → count_by t (leaves_of_batches p f epoch b) ≤ count_by t (leaves_of_batches p f epoch (n + b))
batches_more p f epoch t b zero = let same : 0 + b ≡ b = omega arith in subst (λ (m : ℕ). count_by t (leaves_of_batches p f epoch b) ≤ count_by t (leaves_of_batches p f epoch m)) (sym same) (omega arith)
batches_more p f epoch t b (suc n) =
    let same : suc (n + b) ≡ suc n + b = omega arith in
    let rest : count_by t (leaves_of_batches p f epoch b) ≤ count_by t (leaves_of_batches p f epoch (n + b)) = batches_more p f epoch t b n in
    let more : count_by t (leaves_of_batches p f epoch (n + b) ++ map (f.leaf epoch (n + b)) (below p.places)) ≡ count_by t (leaves_of_batches p f epoch (n + b)) + count_by t (map (f.leaf epoch (n + b)) (below p.places)) =
    count_more t (leaves_of_batches p f epoch (n + b)) (map (f.leaf epoch (n + b)) (below p.places)) in
    subst (λ (m : ℕ). count_by t (leaves_of_batches p f epoch b) ≤ count_by t (leaves_of_batches p f epoch m)) same (omega (arith, rest, more))

-- what a place's buckets were read before it
abbrev pub count_before : Params → AllFills → ℕ → ℕ → ℕ → ℕ → ℕ
count_before p f epoch b i u = counts_now p (public_in_epoch p f epoch b) u + passes_before p (batch_leaves p (fills_at p f epoch) b) i u

place_more : (p : Params) (f : AllFills) (epoch b i u : ℕ) → b < p.batches → i < p.places → passes p u (slice_index (batch_leaves p (fills_at p f epoch) b) i) ≡ true
    → count_before p f epoch b i u < counts_now p (public_in_epoch p f epoch p.batches) u
place_more p f epoch b i u few low here =
    let leaves : List ℕ = batch_leaves p (fills_at p f epoch) b in
    let t : ℕ → Bool = passes p u in
    let many : length leaves ≡ p.places = length-map-range_with_len (f.leaf (suc epoch) b) 0 p.places in
    let one : suc (count_by t (take i leaves)) ≤ count_by t leaves = shown_more t leaves i 0 (omega (arith, low, many)) here in
    let batch : count_by t (leaves_of_batches p f (suc epoch) b ++ leaves) ≡ count_by t (leaves_of_batches p f (suc epoch) b) + count_by t leaves = count_more t (leaves_of_batches p f (suc epoch) b) leaves in
    let all : p.batches - suc b + suc b ≡ p.batches = omega (arith, few) in
    let rest : count_by t (leaves_of_batches p f (suc epoch) (suc b)) ≤ count_by t (leaves_of_batches p f (suc epoch) p.batches) =
    subst (λ (m : ℕ). count_by t (leaves_of_batches p f (suc epoch) (suc b)) ≤ count_by t (leaves_of_batches p f (suc epoch) m)) all (batches_more p f (suc epoch) t (suc b) (p.batches - suc b)) in
    omega (arith, one, batch, rest)

pub place_are : (p : Params) (f : AllFills) (epoch b i : ℕ) → b < p.batches → i < p.places
    → AreHoles p f epoch (place_holes p (count_before p f epoch b i) (slice_index (batch_leaves p (fills_at p f epoch) b) i))
place_are p f epoch b i few low =
    let leaf : ℕ = slice_index (batch_leaves p (fills_at p f epoch) b) i in
    visits_are p f epoch leaf (count_before p f epoch b i) (path p leaf) (all_among [] (path p leaf)) (λ u. omega arith) (λ u here. place_more p f epoch b i u few low here)

-- ---- an end

ends_are : (p : Params) (f : AllFills) (epoch : ℕ) (us : List ℕ) → AllAmong (eviction_path p (public_at p f epoch).counter) us
    → AreHoles p f epoch (flat_map (λ u. cond (nat_lt (counts_now p (public_in_epoch p f epoch p.batches) u) p.dummies) (lift_holes p u (counts_now p (public_in_epoch p f epoch p.batches) u)) []) us)
ends_are p f epoch [] are = tt
ends_are p f epoch (u ∷ us) are = holes_joined p f epoch (cond (nat_lt (counts_now p (public_in_epoch p f epoch p.batches) u) p.dummies) (lift_holes p u (counts_now p (public_in_epoch p f epoch p.batches) u)) []) _
    (go (nat_lt (counts_now p (public_in_epoch p f epoch p.batches) u) p.dummies) refl) (ends_are p f epoch us are.1)
  where
    go : (b : Bool) → nat_lt (counts_now p (public_in_epoch p f epoch p.batches) u) p.dummies ≡ b → AreHoles p f epoch (cond b (lift_holes p u (counts_now p (public_in_epoch p f epoch p.batches) u)) [])
    go true low = (let few : counts_now p (public_in_epoch p f epoch p.batches) u < p.dummies = ltb-true (counts_now p (public_in_epoch p f epoch p.batches) u) p.dummies low in
        lift_range p f epoch u (counts_now p (public_in_epoch p f epoch p.batches) u) p.real (or_left (is_one_of (eviction_path p (public_at p f epoch).counter) u) _ are.0) (omega arith) (omega (arith, few)))
    go false high = tt

pub end_are : (p : Params) (f : AllFills) (epoch : ℕ) → AreHoles p f epoch (final_holes p (counts_now p (public_in_epoch p f epoch p.batches)) (public_at p f epoch).counter)
end_are p f epoch =
    let all : List ℕ = eviction_path p (public_at p f epoch).counter in
    ends_are p f epoch (firsts all) (firsts_among all all (all_among [] all))
