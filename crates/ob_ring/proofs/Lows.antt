-- Leaves stay below the number of leaves, so only buckets of the tree are ever visited.
use Rattle.std.specs.Prelude.{◌≡◌, ℕ, ◌+◌, ◌-◌, ◌*◌, ◌/◌, ◌%◌, ◌^◌, ◌<◌, ◌≤◌, ◌==◌, Bool, true, false, cond, List, [], ◌∷◌, map, Option}
use Rattle.std.specs.declared.option.Option.TheVariants.{None, Some}
use Rattle.std.specs.List.{range_with_len, flat_map, count_by}
use Rattle.std.proofs.Common.{zero, suc, arith, refl, sym, ap, subst, ◌∙◌, inl, inr}
use Rattle.std.proofs.lemmas.Bool.{false≢true, eqb-true, or_cases, cond_both}
use Rattle.std.proofs.lemmas.Nat.{pow_pos, pow-add}
use Rattle.std.proofs.Math.Nat.{two-pow-succ, pow-le-pow_right, div-lt_iff_lt-mul}
use Rattle.ob_ring.proofs.Counts.{count_by-cons}
use Rattle.ob_base.specs.declared.params.Params.{Params}
use Rattle.ob_base.specs.Tree.{below, bucket_of, path, passes, reversed}
use Rattle.ob_schedule.specs.Paths.{is_one_of, eviction_path}
use Rattle.ob_ring.specs.FlatTable.{FlatTable, Row, Spot, spot_of, leaf_of, asked_row, asks_for, fetched, fetch, leaf_shown, mark_index, lift, visit, visits, after_place, after_batch, leaves_shown, after_final, written_row, write, after_writes, fill, fills, index_shown, reads}
use Rattle.ob_ring.proofs.Members.{one_of-append, off_unless}
use Rattle.ob_ring.proofs.Sounds.{leaf-leave}
use Rattle.ob_ring.proofs.Fills.{leaf-placed}

-- ---- buckets of the tree

pub one_of-map-range : (f : ℕ → ℕ) (a n k : ℕ) → is_one_of (map f (range_with_len a n)) k ≡ true → (i : ℕ) × (i < a + n) × (f i ≡ k)
one_of-map-range f a zero k e = absurd (false≢true e)
one_of-map-range f a (suc n) k e = elim (or_cases (f a == k) (is_one_of (map f (range_with_len (a + 1) n)) k) e) [
  | inl at ↦ (a, omega arith, eqb-true (f a) k at)
  | inr off ↦ (let r : (i : ℕ) × (i < (a + 1) + n) × (f i ≡ k) = one_of-map-range f (a + 1) n k off in (r.0, (let h : r.0 < (a + 1) + n = r.1 in omega arith), r.2))
]

pub bucket_within : (p : Params) (leaf level : ℕ) → leaf < 2 ^ p.levels → level ≤ p.levels → bucket_of p level leaf < 2 ^ (p.levels + 1) - 1
bucket_within p leaf level low h =
    let whole : 2 ^ level * 2 ^ (p.levels - level) ≡ 2 ^ p.levels = sym (pow-add 2 level (p.levels - level)) ∙ ap (λ (n : ℕ). 2 ^ n) (let z : level + (p.levels - level) ≡ p.levels = omega arith in z) in
    let part : leaf / 2 ^ (p.levels - level) < 2 ^ level = (div-lt_iff_lt-mul (pow_pos (p.levels - level))).1 (omega arith) in
    let twice : 2 ^ suc level ≡ 2 ^ level + 2 ^ level = two-pow-succ level in
    let most : 2 ^ suc level ≤ 2 ^ (p.levels + 1) = pow-le-pow_right (omega arith) (omega arith) in
    omega (arith, pow_pos level)

pub passes_within : (p : Params) (u leaf : ℕ) → leaf < 2 ^ p.levels → passes p u leaf ≡ true → u < 2 ^ (p.levels + 1) - 1
passes_within p u leaf low e =
    let r : (i : ℕ) × (i < 0 + (p.levels + 1)) × (bucket_of p i leaf ≡ u) = one_of-map-range (λ level. bucket_of p level leaf) 0 (p.levels + 1) u e in
    let h : r.0 < 0 + (p.levels + 1) = r.1 in
    let b : bucket_of p r.0 leaf < 2 ^ (p.levels + 1) - 1 = bucket_within p leaf r.0 low (omega arith) in
    subst (λ (v : ℕ). v < 2 ^ (p.levels + 1) - 1) r.2 b

turned : (b m r s : ℕ) → b < 2 → r < m → s ≡ m + m → b * m + r < s
turned zero m r s h k e = omega arith
turned (suc zero) m r s h k e = omega arith
turned (suc (suc b)) m r s h k e = absurd (omega arith)

pub reversed_low : (l c : ℕ) → reversed l c < 2 ^ l
reversed_low zero c = pow_pos 0
reversed_low (suc l) c = turned (c % 2) (2 ^ l) (reversed l (c / 2)) (2 ^ suc l) (omega arith) (reversed_low l (c / 2)) (two-pow-succ l)

one_of-flat_map : (g : ℕ → List ℕ) (xs : List ℕ) (u : ℕ) → is_one_of (flat_map g xs) u ≡ true → (x : ℕ) × (is_one_of (g x) u ≡ true)
one_of-flat_map g [] u e = absurd (false≢true e)
one_of-flat_map g (x ∷ xs) u e = elim (or_cases (is_one_of (g x) u) (is_one_of (flat_map g xs) u) (sym (one_of-append (g x) (flat_map g xs) u) ∙ e)) [
  | inl here ↦ (x, here)
  | inr there ↦ one_of-flat_map g xs u there
]

pub eviction_within : (p : Params) (c u : ℕ) → is_one_of (eviction_path p c) u ≡ true → u < 2 ^ (p.levels + 1) - 1
eviction_within p c u e =
    let r : (i : ℕ) × (is_one_of (path p (reversed p.levels (c + i))) u ≡ true) = one_of-flat_map (λ i. path p (reversed p.levels (c + i))) (below p.evictions) u e in
    passes_within p u (reversed p.levels (c + r.0)) (reversed_low p.levels (c + r.0)) r.1

-- ---- leaves

abbrev pub IsLow : Params → FlatTable → Type 0
IsLow p t = (k : ℕ) → leaf_of (t.rows k) 0 < 2 ^ p.levels

abbrev SameLeaves : FlatTable → FlatTable → Type 0
SameLeaves t t' = (k : ℕ) → leaf_of (t'.rows k) 0 ≡ leaf_of (t.rows k) 0

leaves_visit : (p : Params) (t : FlatTable) (own : Spot) (u : ℕ) → SameLeaves t (visit p t own u)
leaves_visit p t own u =
    cond_both (t.lifted u) t (cond (reads p t u + 1 == p.dummies) (lift (mark_index t u (index_shown p t own u)) u) (mark_index t u (index_shown p t own u))) (SameLeaves t) (λ e k. refl)
    (λ e. cond_both (reads p t u + 1 == p.dummies) (lift (mark_index t u (index_shown p t own u)) u) (mark_index t u (index_shown p t own u)) (SameLeaves t) (λ f k. leaf-leave u (t.rows k) 0) (λ f k. refl))

leaves_visits : (p : Params) (t : FlatTable) (own : Spot) (us : List ℕ) → SameLeaves t (visits p t own us)
leaves_visits p t own [] k = refl
leaves_visits p t own (u ∷ us) k = leaves_visits p (visit p t own u) own us k ∙ leaves_visit p t own u k

low_fetched : (asked : Bool) (leaf m : ℕ) (r : Option Row) → leaf < m → leaf_of r 0 < m → leaf_of (fetched asked leaf r) 0 < m
low_fetched asked leaf m None h k = k
low_fetched true leaf m (Some r) h k = h
low_fetched false leaf m (Some r) h k = k

low_default : (r : Option Row) (x m : ℕ) → x < m → leaf_of r 0 < m → leaf_of r x < m
low_default None x m h k = h
low_default (Some r) x m h k = k

low_shown : (p : Params) (t : FlatTable) (ask : Option ℕ) (leaf : ℕ) → leaf < 2 ^ p.levels → IsLow p t → leaf_shown t ask leaf < 2 ^ p.levels
low_shown p t None leaf h l = h
low_shown p t (Some k) leaf h l = low_default (t.rows k) leaf (2 ^ p.levels) h (l k)

low_place : (p : Params) (t : FlatTable) (ask : Option ℕ) (leaf : ℕ) → leaf < 2 ^ p.levels → IsLow p t → IsLow p (after_place p t ask leaf)
low_place p t ask leaf h l k =
    let same : leaf_of ((after_place p t ask leaf).rows k) 0 ≡ leaf_of (fetched (asks_for ask k) leaf (t.rows k)) 0 = leaves_visits p (fetch t ask leaf) (spot_of (asked_row t ask)) (path p (leaf_shown t ask leaf)) k in
    subst (λ (x : ℕ). x < 2 ^ p.levels) (sym same) (low_fetched (asks_for ask k) leaf (2 ^ p.levels) (t.rows k) h (l k))

abbrev pub AreLow : Params → List (Option ℕ × ℕ) → Type 0
AreLow p [] = Unit {0}
AreLow p (a ∷ rest) = (a.1 < 2 ^ p.levels) × AreLow p rest

pub low_batch : (p : Params) (t : FlatTable) (places : List (Option ℕ × ℕ)) → AreLow p places → IsLow p t → IsLow p (after_batch p t places)
low_batch p t [] h l = l
low_batch p t (a ∷ rest) h l = low_batch p (after_place p t a.0 a.1) rest h.1 (low_place p t a.0 a.1 h.0 l)

-- a bucket outside the tree isn't passed
pub outside_batch : (p : Params) (t : FlatTable) (places : List (Option ℕ × ℕ)) (u : ℕ) → AreLow p places → IsLow p t → 2 ^ (p.levels + 1) - 1 ≤ u → count_by (passes p u) (leaves_shown p t places) ≡ 0
outside_batch p t [] u h l out = refl
outside_batch p t (a ∷ rest) u h l out =
    let off : passes p u (leaf_shown t a.0 a.1) ≡ false = off_unless (passes p u (leaf_shown t a.0 a.1)) (λ e. (let k : u < 2 ^ (p.levels + 1) - 1 = passes_within p u (leaf_shown t a.0 a.1) (low_shown p t a.0 a.1 h.0 l) e in omega arith)) in
    count_by-cons (passes p u) (leaf_shown t a.0 a.1) (leaves_shown p (after_place p t a.0 a.1) rest)
    ∙ (λ i. cond (off i) 1 0 + outside_batch p (after_place p t a.0 a.1) rest u h.1 (low_place p t a.0 a.1 h.0 l) out i)

leaves_turn : (t : FlatTable) (u : ℕ) → SameLeaves t (cond (t.lifted u) t (lift t u))
leaves_turn t u = cond_both (t.lifted u) t (lift t u) (SameLeaves t) (λ e k. refl) (λ e k. leaf-leave u (t.rows k) 0)

leaves_final : (p : Params) (t : FlatTable) (us : List ℕ) → SameLeaves t (after_final p t us)
leaves_final p t [] k = refl
leaves_final p t (u ∷ us) k = leaves_final p (cond (t.lifted u) t (lift t u)) us k ∙ leaves_turn t u k

pub low_final : (p : Params) (t : FlatTable) (us : List ℕ) → IsLow p t → IsLow p (after_final p t us)
low_final p t us l k = subst (λ (x : ℕ). x < 2 ^ p.levels) (sym (leaves_final p t us k)) (l k)

leaves_fills : (p : Params) (t : FlatTable) (us : List ℕ) → SameLeaves t (fills p t us)
leaves_fills p t [] k = refl
leaves_fills p t (u ∷ us) k = leaves_fills p (fill p t u) us k ∙ leaf-placed u _ _ (t.rows k) 0

pub low_fills : (p : Params) (t : FlatTable) (us : List ℕ) → IsLow p t → IsLow p (fills p t us)
low_fills p t us l k = subst (λ (x : ℕ). x < 2 ^ p.levels) (sym (leaves_fills p t us k)) (l k)

abbrev pub ArePutsLow : Params → List (ℕ × Option ℕ) → Type 0
ArePutsLow p [] = Unit {0}
ArePutsLow p (w ∷ ws) = (leaf_of (written_row w.1) 0 < 2 ^ p.levels) × ArePutsLow p ws

low_case : (b : Bool) (v r : Option Row) (m : ℕ) → leaf_of v 0 < m → leaf_of r 0 < m → leaf_of (cond b v r) 0 < m
low_case true v r m h k = h
low_case false v r m h k = k

pub low_writes : (p : Params) (t : FlatTable) (ws : List (ℕ × Option ℕ)) → ArePutsLow p ws → IsLow p t → IsLow p (after_writes t ws)
low_writes p t [] h l = l
low_writes p t (w ∷ ws) h l = low_writes p (write t w.0 w.1) ws h.1 (λ k. low_case (k == w.0) (written_row w.1) (t.rows k) (2 ^ p.levels) h.0 (l k))
