-- Reads of the buckets of a path, one level more, and of the paths of leaves, one leaf more.
use Rattle.std.specs.Prelude.{◌≡◌, ◌<◌, ◌≤◌, ℕ, ◌+◌, ◌-◌, ◌*◌, ◌/◌, ◌^◌, ◌==◌, Bool, true, false, ◌||◌, cond, List, [], ◌∷◌, ◌++◌, map, take, length, count_by}
use Rattle.std.specs.List.{list_any}
use mir.Val.{bool_byte}
use Rattle.std.proofs.Common.{refl, sym, ap, ◌∙◌, arith, zero, suc, get_or, add-one}
use Rattle.std.proofs.Math.Nat.{pow-suc}
use Rattle.std.proofs.Math.Seq.{take-append_seam}
use Rattle.std.proofs.lemmas.Nat.{pow_pos, div-add-mod', mul-le, le-div}
use Rattle.std.proofs.lemmas.Bool.{ne_eqb, eq-eqb, eqb-true}
use Rattle.std.proofs.lemmas.List.{take_more, map-append}
use Rattle.std.proofs.lemmas.List.Folds.{list_any-append}
use Rattle.std.proofs.lemmas.List.Sums.{sum_by-append}
use Rattle.ob_base.specs.declared.params.Params.{Params}
use Rattle.ob_base.specs.Tree.{below, bucket_of}
use Rattle.ob_base.proofs.Bounds.{power_le}
use Rattle.ob_schedule.specs.Paths.{is_one_of}
use Rattle.ob_wants.proofs.Lists.{below_up}

less_division : (a b c : ℕ) → 0 < b → b ≤ c → a / c ≤ a / b
less_division a b c some le = le-div (a / c) a b some (omega (arith, mul-le (a / c) b (a / c) c (omega arith) le, div-add-mod' a c))

doubled : (l : ℕ) → 2 ^ (l + 1) ≡ 2 * 2 ^ l
doubled l = let h : 2 ^ (l + 1) ≡ 2 ^ l * 2 = rw add-one (pow-suc 2 l) in omega arith

-- a path's buckets rise with their levels
rising : (p : Params) (leaf l m : ℕ) → l < m → m ≤ p.levels → bucket_of p l leaf < bucket_of p m leaf
rising p leaf l m lt le =
    let near : 2 ^ (p.levels - m) ≤ 2 ^ (p.levels - l) = power_le (p.levels - m) (p.levels - l) (omega arith) in
    let parts : leaf / 2 ^ (p.levels - l) ≤ leaf / 2 ^ (p.levels - m) = less_division leaf (2 ^ (p.levels - m)) (2 ^ (p.levels - l)) (pow_pos (p.levels - m)) near in
    omega (arith, parts, power_le (l + 1) m (omega arith), doubled l, pow_pos l)

-- whether one of the first levels of a path has the bucket
abbrev pub on_levels : Params → ℕ → ℕ → ℕ → Bool
on_levels p leaf n u = list_any (λ v. v == u) (map (λ level. bucket_of p level leaf) (below n))

level_more : (p : Params) (leaf n u : ℕ) → on_levels p leaf (n + 1) u ≡ (on_levels p leaf n u || ((bucket_of p n leaf == u) || false))
level_more p leaf n u =
    ap (λ (ls : List ℕ). list_any (λ v. v == u) (map (λ level. bucket_of p level leaf) ls)) (below_up n)
    ∙ ap (list_any (λ v. v == u)) (map-append (λ level. bucket_of p level leaf) (below n) (n ∷ []))
    ∙ list_any-append (λ v. v == u) (map (λ level. bucket_of p level leaf) (below n)) (bucket_of p n leaf ∷ [])

not_yet : (p : Params) (leaf n m : ℕ) → n ≤ m → m ≤ p.levels → on_levels p leaf n (bucket_of p m leaf) ≡ false
not_yet p leaf zero m le within = refl
not_yet p leaf (suc n) m le within =
    let apart : (bucket_of p n leaf == bucket_of p m leaf) ≡ false = ne_eqb (bucket_of p n leaf) (bucket_of p m leaf) (λ e. omega (arith, e, rising p leaf n m (omega arith) within)) in
    ap (λ (k : ℕ). on_levels p leaf k (bucket_of p m leaf)) (sym (add-one n)) ∙ level_more p leaf n (bucket_of p m leaf) ∙ (λ j. not_yet p leaf n m (omega arith) within j || (apart j || false))

or_true : (a : Bool) → (a || (true || false)) ≡ true
or_true true = refl
or_true false = refl

-- a bucket that one of the first levels has is one of the path's
pub reached : (p : Params) (leaf n d u : ℕ) → bucket_of p n leaf ≡ u → on_levels p leaf (n + 1 + d) u ≡ true
reached p leaf n zero u is =
    ap (λ (k : ℕ). on_levels p leaf k u) (let same : n + 1 + zero ≡ n + 1 = omega arith in same) ∙ level_more p leaf n u ∙ ap (λ (b : Bool). on_levels p leaf n u || (b || false)) (eq-eqb (bucket_of p n leaf) u is) ∙ or_true (on_levels p leaf n u)
reached p leaf n (suc d) u is =
    ap (λ (k : ℕ). on_levels p leaf k u) (let same : n + 1 + suc d ≡ n + 1 + d + 1 = omega arith in same) ∙ level_more p leaf (n + 1 + d) u ∙ ap (λ (b : Bool). b || ((bucket_of p (n + 1 + d) leaf == u) || false)) (reached p leaf n d u is)

-- a level more that hasn't the bucket
pub missed : (p : Params) (leaf n u bucket : ℕ) → on_levels p leaf n u ≡ false → bucket ≡ bucket_of p n leaf → (bucket ≡ u → ⊥) → on_levels p leaf (n + 1) u ≡ false
missed p leaf n u bucket none is other =
    level_more p leaf n u ∙ (λ j. none j || (ne_eqb (bucket_of p n leaf) u (λ same. other (is ∙ same)) j || false))

one_more : (before is after : Bool) (old mid new : ℕ) → after ≡ (before || (is || false)) → (is ≡ true → before ≡ false) → mid ≡ old + cond before 1 0 → new ≡ mid + cond is 1 0 → new ≡ old + cond after 1 0
one_more true true after old mid new told fresh a b = let e : true ≡ false = fresh refl in absurd (cc)
one_more true false after old mid new told fresh a b = rw told (omega (arith, a, b))
one_more false true after old mid new told fresh a b = rw told (omega (arith, a, b))
one_more false false after old mid new told fresh a b = rw told (omega (arith, a, b))

-- one level more
pub read_more : (p : Params) (leaf n u bucket old mid new : ℕ) → n ≤ p.levels → bucket ≡ bucket_of p n leaf → mid ≡ old + cond (on_levels p leaf n u) 1 0 → new ≡ mid + cond (bucket == u) 1 0 → new ≡ old + cond (on_levels p leaf (n + 1) u) 1 0
read_more p leaf n u bucket old mid new within on a more =
    let b : new ≡ mid + cond (bucket_of p n leaf == u) 1 0 = more ∙ ap (λ (v : ℕ). mid + cond (v == u) 1 0) on in
    one_more (on_levels p leaf n u) (bucket_of p n leaf == u) (on_levels p leaf (n + 1) u) old mid new (level_more p leaf n u) (λ is. ap (on_levels p leaf n) (sym (eqb-true (bucket_of p n leaf) u is)) ∙ not_yet p leaf n n (omega arith) within) a b

pub count_behind : (f : ℕ → Bool) (xs : List ℕ) (x : ℕ) → count_by f (xs ++ x ∷ []) ≡ count_by f xs + cond (f x) 1 0
count_behind f xs x = omega (arith, sum_by-append (λ y. cond (f y) 1 0) xs (x ∷ []))

byte_is : (b : Bool) → bool_byte b ≡ cond b 1 0
byte_is true = refl
byte_is false = refl

few_more : (b : Bool) → cond b 1 0 ≤ 1
few_more true = omega arith
few_more false = omega arith

-- one leaf more
pub counted_next : (f : ℕ → Bool) (xs : List ℕ) (i many : ℕ) (b : Bool) → i < length xs → b ≡ f (get_or xs i 0) → many ≡ count_by f (take i xs) → many ≤ i
    → (many + bool_byte b ≡ count_by f (take (i + 1) xs)) × (many + bool_byte b ≤ i + 1)
counted_next f xs i many b lt is was few = (
  (λ j. was j + (byte_is b ∙ ap (λ (c : Bool). cond c 1 0) is) j) ∙ sym (ap (count_by f) (take_more xs i 0 lt) ∙ count_behind f (take i xs) (get_or xs i 0)),
  omega (arith, few, byte_is b, few_more b),
)

told_more : (before is after : Bool) → after ≡ (before || (is || false)) → cond is true before ≡ after
told_more true true after told = sym told
told_more true false after told = sym told
told_more false true after told = sym told
told_more false false after told = sym told

-- one bucket more that is marked
pub mark_more : (list : List ℕ) (i u : ℕ) (mid new : Bool) → i < length list → mid ≡ is_one_of (take i list) u → new ≡ cond (get_or list i 0 == u) true mid → new ≡ is_one_of (take (i + 1) list) u
mark_more list i u mid new lt a b =
    let told : is_one_of (take (i + 1) list) u ≡ (is_one_of (take i list) u || ((get_or list i 0 == u) || false)) = ap (λ (us : List ℕ). is_one_of us u) (take_more list i 0 lt) ∙ list_any-append (λ v. v == u) (take i list) (get_or list i 0 ∷ []) in
    b ∙ ap (λ (m : Bool). cond (get_or list i 0 == u) true m) a ∙ told_more (is_one_of (take i list) u) (get_or list i 0 == u) (is_one_of (take (i + 1) list) u) told

-- a list whose values were changed in place
pub in_place : {A : Type 0} (ys rest : List A) (len : ℕ) → length ys ≡ len → take len (ys ++ rest) ≡ ys
in_place {A} ys rest len same = ap (λ (n : ℕ). take n (ys ++ rest)) (sym same) ∙ take-append_seam ys rest
