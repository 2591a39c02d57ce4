-- What lies in no tree is passed by no path, and is never lifted.
use Rattle.std.specs.Prelude.{◌≡◌, ◌<◌, ◌≤◌, ℕ, ◌+◌, ◌-◌, ◌*◌, ◌/◌, ◌%◌, ◌^◌, ◌==◌, nat_le, false, ◌||◌, cond, List, [], ◌∷◌, ◌++◌, map}
use Rattle.std.specs.List.{range_with_len, count_by, flat_map, list_any}
use Rattle.std.proofs.Common.{zero, suc, refl, sym, ap, ◌∙◌, arith, pow-add, add-one, le-mul_of_pos_right}
use Rattle.std.proofs.Math.Nat.{div-lt_iff_lt-mul, pow-suc}
use Rattle.std.proofs.lemmas.Nat.{pow_pos}
use Rattle.std.proofs.lemmas.Bool.{ne_eqb, lt-leb}
use Rattle.std.proofs.lemmas.List.Folds.{list_any-append}
use Rattle.ob_base.specs.declared.params.Params.{Params}
use Rattle.ob_base.specs.Tree.{buckets, bucket_of, path, passes, reversed}
use Rattle.ob_schedule.specs.Paths.{is_one_of, eviction_path}
use Rattle.ob_schedule.specs.Schedule.{Public, counts_now, is_lifted_by_end}
use Rattle.ob_histories.proofs.Lists.{count_one}

next_level : (l : ℕ) → 2 ^ (l + 1) ≡ 2 * 2 ^ l
next_level l = let h : 2 ^ (l + 1) ≡ 2 ^ l * 2 = ap (λ (n : ℕ). 2 ^ n) (add-one l) ∙ pow-suc 2 l in omega (arith, h)

-- a bucket of a level is one of the tree
pub bucket_within : (p : Params) (level leaf : ℕ) → level ≤ p.levels → leaf < 2 ^ p.levels → bucket_of p level leaf < buckets p
unfolding buckets
bucket_within p level leaf h k =
    let n : ℕ = p.levels - level in
    let whole : level + n ≡ p.levels = omega (arith, h) in
    let split : 2 ^ p.levels ≡ 2 ^ level * 2 ^ n = ap (λ (m : ℕ). 2 ^ m) (sym whole) ∙ pow-add 2 level n in
    let fits : leaf < 2 ^ level * 2 ^ n = omega (arith, k, split) in
    let low : leaf / 2 ^ n < 2 ^ level = (div-lt_iff_lt-mul (pow_pos n)).1 fits in
    let some : 0 < 2 ^ n = pow_pos n in
    let more : 2 ^ level ≤ 2 ^ level * 2 ^ n = le-mul_of_pos_right (2 ^ level) some in
    let twice : 2 ^ (p.levels + 1) ≡ 2 * 2 ^ p.levels = next_level p.levels in
    omega (arith, low, more, twice, split)

pub reversed_low : (bits c : ℕ) → reversed bits c < 2 ^ bits
reversed_low zero c = omega arith
reversed_low (suc bits) c =
    let rest : reversed bits (c / 2) < 2 ^ bits = reversed_low bits (c / 2) in
    let twice : 2 ^ suc bits ≡ 2 ^ bits * 2 = pow-suc 2 bits in
    bound (c % 2) (2 ^ bits) (reversed bits (c / 2)) (2 ^ suc bits) (omega arith) rest twice
  where
    bound : (b m r n : ℕ) → b < 2 → r < m → n ≡ m * 2 → b * m + r < n
    bound zero m r n few low is = omega (arith, low, is)
    bound (suc zero) m r n few low is = omega (arith, low, is)
    bound (suc (suc b)) m r n few low is = absurd (omega (arith, few))

-- ---- no path passes what lies behind the tree's last bucket

pub path_misses : (p : Params) (u leaf a n : ℕ) → buckets p ≤ u → leaf < 2 ^ p.levels → a + n ≤ p.levels + 1 → list_any (λ v. v == u) (map (λ level. bucket_of p level leaf) (range_with_len a n)) ≡ false
path_misses p u leaf a zero out low few = refl
path_misses p u leaf a (suc n) out low few =
    let within : bucket_of p a leaf < buckets p = bucket_within p a leaf (omega (arith, few)) low in
    let other : (bucket_of p a leaf == u) ≡ false = ne_eqb (bucket_of p a leaf) u (λ same. omega (arith, same, within, out)) in
    let rest : list_any (λ v. v == u) (map (λ level. bucket_of p level leaf) (range_with_len (a + 1) n)) ≡ false = path_misses p u leaf (a + 1) n out low (omega (arith, few)) in
    λ i. other i || rest i

pub passes_none : (p : Params) (u leaf : ℕ) → buckets p ≤ u → leaf < 2 ^ p.levels → passes p u leaf ≡ false
passes_none p u leaf out low = path_misses p u leaf 0 (p.levels + 1) out low (omega arith)

any_joined : (u : ℕ) (xs ys : List ℕ) → is_one_of xs u ≡ false → is_one_of ys u ≡ false → is_one_of (xs ++ ys) u ≡ false
any_joined u xs ys none rest = list_any-append (λ v. v == u) xs ys ∙ (λ i. none i || rest i)

evicted_none : (p : Params) (counter u a n : ℕ) → buckets p ≤ u → is_one_of (flat_map (λ i. path p (reversed p.levels (counter + i))) (range_with_len a n)) u ≡ false
evicted_none p counter u a zero out = refl
evicted_none p counter u a (suc n) out =
    any_joined u (path p (reversed p.levels (counter + a))) (flat_map (λ i. path p (reversed p.levels (counter + i))) (range_with_len (a + 1) n))
    (passes_none p u (reversed p.levels (counter + a)) out (reversed_low p.levels (counter + a))) (evicted_none p counter u (a + 1) n out)

-- leaves of the tree
abbrev pub AreLeaves : Params → List ℕ → Type 0
AreLeaves p [] = Unit {0}
AreLeaves p (leaf ∷ leaves) = (leaf < 2 ^ p.levels) × AreLeaves p leaves

pub leaves_joined : (p : Params) (xs ys : List ℕ) → AreLeaves p xs → AreLeaves p ys → AreLeaves p (xs ++ ys)
leaves_joined p [] ys a b = b
leaves_joined p (x ∷ xs) ys a b = (a.0, leaves_joined p xs ys a.1 b)

pub passed_never : (p : Params) (u : ℕ) (leaves : List ℕ) → buckets p ≤ u → AreLeaves p leaves → count_by (passes p u) leaves ≡ 0
passed_never p u [] out are = refl
passed_never p u (leaf ∷ leaves) out are = count_one (passes p u) leaf leaves ∙ λ i. cond (passes_none p u leaf out are.0 i) 1 0 + passed_never p u leaves out are.1 i

-- a bucket of no tree isn't lifted
pub lifted_never : (p : Params) (q : Public) (u : ℕ) → buckets p ≤ u → q.counts u ≡ 0 → AreLeaves p q.leaves → is_lifted_by_end p q u ≡ false
lifted_never p q u out none are =
    let evicted : is_one_of (eviction_path p q.counter) u ≡ false = evicted_none p q.counter u 0 p.evictions out in
    let now : counts_now p q u ≡ 0 = λ i. none i + passed_never p u q.leaves out are i in
    let some : 0 < p.dummies = omega (arith, p.in_range.some_dummies) in
    let few : nat_le p.dummies (counts_now p q u) ≡ false = ap (nat_le p.dummies) now ∙ lt-leb p.dummies 0 some in
    λ i. evicted i || few i
