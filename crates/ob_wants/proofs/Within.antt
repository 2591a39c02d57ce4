-- Lists of the numbers below a bound, by functions that agree there.
use Rattle.std.specs.Prelude.{◌≡◌, ◌<◌, ℕ, ◌+◌, ◌-◌, ◌*◌, ◌^◌, nat_lt, nat_le, Bool, true, false, ◌||◌, cond, List, ◌∷◌, ◌++◌, map, filter, length, slice_index_or}
use Rattle.std.specs.List.{range_with_len}
use Rattle.std.proofs.Common.{refl, sym, ap, ◌∙◌, arith, zero, suc}
use Rattle.std.proofs.Math.Nat.{pow-suc}
use Rattle.std.proofs.lemmas.Nat.{pow_pos}
use Rattle.std.proofs.lemmas.Bool.{lt-ltb}
use Rattle.std.proofs.lemmas.List.Elements.{filter-append}
use Rattle.std.proofs.lemmas.List.FromFn.{length-map-range_with_len}
use Rattle.ob_base.specs.declared.params.Params.{Params}
use Rattle.ob_base.specs.Tree.{below, buckets}
use Rattle.ob_schedule.specs.Paths.{by_falling_level}
use Rattle.ob_schedule.specs.Schedule.{bucket_writes, counts_now}
use Rattle.ob_schedule.specs.Sides.{other, side_number}
use Rattle.ob_schedule.specs.Standing.{StandingKnown, public_known, is_lifted, count_after}
use Rattle.ob_schedule.specs.Wants.{writes_anew}
use Rattle.ob_wants.specs.Marked.{writes_marked}
use Rattle.ob_wants.proofs.RowLaws.{index_at}

same_range : {X : Type 0} (f g : ℕ → X) (a n : ℕ) → ((u : ℕ) → u < a + n → f u ≡ g u) → map f (range_with_len a n) ≡ map g (range_with_len a n)
same_range {X} f g a zero same = refl
same_range {X} f g a (suc n) same = λ j. same a (omega arith) j ∷ same_range f g (a + 1) n (λ u lt. same u (omega (arith, lt))) j

pub same_below : {X : Type 0} (f g : ℕ → X) (n : ℕ) → ((u : ℕ) → u < n → f u ≡ g u) → map f (below n) ≡ map g (below n)
same_below {X} f g n same = same_range f g 0 n (λ u lt. same u (omega (arith, lt)))

same_filter : (f g : ℕ → Bool) (a n : ℕ) → ((u : ℕ) → u < a + n → f u ≡ g u) → filter f (range_with_len a n) ≡ filter g (range_with_len a n)
same_filter f g a zero same = refl
same_filter f g a (suc n) same = λ j. cond (same a (omega arith) j) (a ∷ same_filter f g (a + 1) n (λ u lt. same u (omega (arith, lt))) j) (same_filter f g (a + 1) n (λ u lt. same u (omega (arith, lt))) j)

same_levels : (f g : ℕ → Bool) (n : ℕ) → ((u : ℕ) → u < 2 ^ n - 1 → f u ≡ g u) → filter f (by_falling_level n) ≡ filter g (by_falling_level n)
same_levels f g zero same = refl
same_levels f g (suc n) same =
    let twice : 2 ^ suc n ≡ 2 ^ n * 2 = pow-suc 2 n in
    let some : 0 < 2 ^ n = pow_pos n in
    filter-append f (range_with_len (2 ^ n - 1) (2 ^ n)) (by_falling_level n)
    ∙ (λ j. same_filter f g (2 ^ n - 1) (2 ^ n) (λ u lt. same u (omega (arith, lt, twice, some))) j ++ same_levels f g n (λ u lt. same u (omega (arith, lt, twice, some))) j)
    ∙ sym (filter-append g (range_with_len (2 ^ n - 1) (2 ^ n)) (by_falling_level n))

pub told_at : {X : Type 0} (f : ℕ → X) (list : List X) (n u : ℕ) (d : X) → list ≡ map f (below n) → u < n → slice_index_or list u d ≡ f u
told_at {X} f list n u d is lt =
    let within : nat_lt u n ≡ true = lt-ltb u n lt in
    ap (λ (xs : List X). slice_index_or xs u d) is ∙ index_at f n u d ∙ ap (λ (b : Bool). cond b (f u) d) within

pub as_many : {X : Type 0} (f : ℕ → X) (list : List X) (n : ℕ) → list ≡ map f (below n) → length list ≡ n
as_many {X} f list n is = ap length is ∙ length-map-range_with_len f 0 n

pub marked_at : (f : ℕ → Bool) (marks : List Bool) (n u : ℕ) → marks ≡ map f (below n) → u < n → slice_index_or marks u false ≡ f u
marked_at f marks n u is lt = told_at f marks n u false is lt

-- what is written anew, as marks of all buckets tell it
pub all_marked : (p : Params) (s : StandingKnown) (leaves : List ℕ) (marks : List Bool) → marks ≡ map (is_lifted p s leaves) (below (buckets p)) → writes_marked p s marks (by_falling_level (p.levels + 1)) ≡ writes_anew p s leaves (by_falling_level (p.levels + 1))
unfolding buckets
all_marked p s leaves marks is =
    ap (bucket_writes p (λ u. side_number (other (s.homes u)))) (same_levels (λ u. slice_index_or marks u false) (is_lifted p s leaves) (p.levels + 1) (λ u lt. marked_at (is_lifted p s leaves) marks (buckets p) u is lt))

left_over : (a b : Bool) (n : ℕ) → cond (a || b) 0 (cond b 0 n) ≡ cond (a || b) 0 n
left_over true b n = refl
left_over false true n = refl
left_over false false n = refl

-- what counts are left, as those of now tell it
pub counts_left : (p : Params) (s : StandingKnown) (leaves : List ℕ) (u : ℕ)
    → cond (nat_lt u (buckets p)) (cond (is_lifted p s leaves u) 0 (cond (nat_le p.dummies (counts_now p (public_known p s leaves) u)) 0 (counts_now p (public_known p s leaves) u))) 0 ≡ count_after p s leaves u
counts_left p s leaves u =
    ap (λ (n : ℕ). cond (nat_lt u (buckets p)) n 0) (left_over _ (nat_le p.dummies (counts_now p (public_known p s leaves) u)) (counts_now p (public_known p s leaves) u))
