-- The list of lifted buckets.
use Rattle.std.specs.Prelude.{◌≡◌, ℕ, ◌+◌, ◌-◌, ◌*◌, ◌%◌, ◌^◌, ◌<◌, ◌≤◌, Bool, true, false, cond, List, [], ◌∷◌, ◌++◌, length, filter}
use Rattle.std.specs.List.{range_with_len}
use Rattle.std.proofs.Common.{zero, suc, arith, refl, sym, ap, ◌∙◌, length-append}
use Rattle.std.proofs.lemmas.List.Elements.{filter-append}
use Rattle.std.proofs.Math.Nat.{two-pow-succ}
use Rattle.std.proofs.lemmas.Nat.{pow_pos}
use Rattle.ob_base.specs.declared.params.Params.{Params}
use Rattle.ob_base.specs.Tree.{buckets}
use Rattle.ob_base.proofs.TreeLaws.{one_shifted}
use Rattle.ob_base.proofs.Bounds.{buckets_le}
use Rattle.ob_tables.specs.Buckets.{Buckets, is_lifted}
use Rattle.ob_tables.proofs.Counting.{range_more}
use Rattle.ob_schedule.specs.Paths.{by_falling_level}
use Rattle.ob_ring.proofs.Appends.{append_more, append_none}

pub filter_more : (f : ℕ → Bool) (a n : ℕ) (b : Bool) → f (a + n) ≡ b → filter f (range_with_len a (n + 1)) ≡ filter f (range_with_len a n) ++ cond b ((a + n) ∷ []) []
filter_more f a n b is =
    ap (λ (m : ℕ). filter f (range_with_len a m)) (let z : n + 1 ≡ suc n = omega arith in z)
    ∙ ap (filter f) (range_more a n (a + n) refl) ∙ filter-append f (range_with_len a n) ((a + n) ∷ [])
    ∙ ap (λ (c : Bool). filter f (range_with_len a n) ++ cond c ((a + n) ∷ []) []) is

-- the list so far
pub record Lists (n first : ℕ) (old new : Buckets) : Type 0 where
  pub is : new ≡ record old { order = old.order ++ filter (λ u. is_lifted old u) (range_with_len first n) }
  pub few : length new.order ≤ length old.order + n

pub lists_more : (n first : ℕ) (old mid new : Buckets) → Lists n first old mid → is_lifted mid (first + n) ≡ true → new ≡ record mid { order = mid.order ++ (first + n) ∷ [] } → Lists (n + 1) first old new
lists_more n first old mid new l up pushed =
    let here : is_lifted old (first + n) ≡ true = ap (λ (s : Buckets). is_lifted s (first + n)) (sym l.is) ∙ up in
    let more : filter (λ u. is_lifted old u) (range_with_len first (n + 1)) ≡ filter (λ u. is_lifted old u) (range_with_len first n) ++ (first + n) ∷ [] = filter_more (λ u. is_lifted old u) first n true here in
    record {
      is = pushed ∙ (λ i. record (l.is i) { order = (l.is i).order ++ (first + n) ∷ [] })
          ∙ ap (λ (xs : List ℕ). record old { order = xs }) (append_more old.order (filter (λ u. is_lifted old u) (range_with_len first n)) ((first + n) ∷ []) ∙ ap (λ (xs : List ℕ). old.order ++ xs) (sym more));
      few = omega (arith, l.few, ap (λ (s : Buckets). length s.order) pushed, length-append mid.order ((first + n) ∷ []));
    }

pub lists_same : (n first : ℕ) (old mid new : Buckets) → Lists n first old mid → is_lifted mid (first + n) ≡ false → new ≡ mid → Lists (n + 1) first old new
lists_same n first old mid new l down same =
    let here : is_lifted old (first + n) ≡ false = ap (λ (s : Buckets). is_lifted s (first + n)) (sym l.is) ∙ down in
    let more : filter (λ u. is_lifted old u) (range_with_len first (n + 1)) ≡ filter (λ u. is_lifted old u) (range_with_len first n) = filter_more (λ u. is_lifted old u) first n false here ∙ append_none (filter (λ u. is_lifted old u) (range_with_len first n)) in
    record {
      is = same ∙ l.is ∙ ap (λ (xs : List ℕ). record old { order = old.order ++ xs }) (sym more);
      few = omega (arith, l.few, ap (λ (s : Buckets). length s.order) same);
    }

-- the levels so far, from the leaves' on
pub record ListsLevels (p : Params) (n : ℕ) (old new : Buckets) : Type 0 where
  pub is : new ≡ record old { order = new.order }
  pub listed : (rest : ℕ) → n + rest ≡ p.levels + 1 → new.order ++ filter (λ u. is_lifted old u) (by_falling_level rest) ≡ filter (λ u. is_lifted old u) (by_falling_level (p.levels + 1))
  pub few : (rest : ℕ) → n + rest ≡ p.levels + 1 → length new.order + (2 ^ rest - 1) ≤ buckets p

pub levels_none : (p : Params) (old new : Buckets) → new ≡ record old { order = [] } → ListsLevels p 0 old new
unfolding buckets
levels_none p old new e =
    let none : new.order ≡ [] = ap (λ (s : Buckets). s.order) e in
    record {
      is = e ∙ (λ i. record old { order = sym none i });
      listed = λ rest at. (let same : rest ≡ p.levels + 1 = omega arith in (λ i. none i ++ filter (λ u. is_lifted old u) (by_falling_level (same i))));
      few = λ rest at. (let same : 2 ^ rest ≡ 2 ^ (p.levels + 1) = ap (λ (m : ℕ). 2 ^ m) (let z : rest ≡ p.levels + 1 = omega arith in z) in omega (arith, ap (λ (xs : List ℕ). length xs) none));
    }

count_few : (f : ℕ → Bool) (a n : ℕ) → length (filter f (range_with_len a n)) ≤ n
count_few f a zero = omega arith
count_few f a (suc n) = kept_few (f a) (filter f (range_with_len (a + 1) n)) n (count_few f (a + 1) n)
  where
    kept_few : (b : Bool) (xs : List ℕ) (m : ℕ) → length xs ≤ m → length (cond b (a ∷ xs) xs) ≤ suc m
    kept_few true xs m h = omega arith
    kept_few false xs m h = omega arith

pub level_many : (p : Params) (k : ℕ) → k ≤ p.levels → 1 * 2 ^ k % 4294967296 ≡ 2 ^ k
level_many p k h = one_shifted k (omega (arith, p.in_range.few_levels))

pub levels_more : (p : Params) (n k many : ℕ) (old mid new : Buckets) → n + suc k ≡ p.levels + 1 → many ≡ 2 ^ k → ListsLevels p n old mid → new ≡ record mid { order = mid.order ++ filter (λ u. is_lifted mid u) (range_with_len (many - 1) many) } → ListsLevels p (n + 1) old new
levels_more p n k many old mid new at is l pushed =
    let f : ℕ → Bool = λ u. is_lifted old u in
    let order : new.order ≡ mid.order ++ filter f (range_with_len (2 ^ k - 1) (2 ^ k)) =
    ap (λ (s : Buckets). s.order) pushed ∙ (λ i. mid.order ++ filter (λ u. is_lifted (l.is i) u) (range_with_len (is i - 1) (is i))) in
    record {
      is = pushed ∙ (λ i. record (l.is i) { order = mid.order ++ filter (λ u. is_lifted mid u) (range_with_len (many - 1) many) }) ∙ (λ i. record old { order = ap (λ (s : Buckets). s.order) (sym pushed) i });
      listed = λ rest e. (let same : rest ≡ k = omega arith in
          (λ i. order i ++ filter f (by_falling_level (same i))) ∙ append_more mid.order (filter f (range_with_len (2 ^ k - 1) (2 ^ k))) (filter f (by_falling_level k))
          ∙ ap (λ (xs : List ℕ). mid.order ++ xs) (sym (filter-append f (range_with_len (2 ^ k - 1) (2 ^ k)) (by_falling_level k))) ∙ l.listed (suc k) at);
      few = λ rest e. (let same : 2 ^ rest ≡ 2 ^ k = ap (λ (m : ℕ). 2 ^ m) (let z : rest ≡ k = omega arith in z) in
          let long : length new.order ≡ length mid.order + length (filter f (range_with_len (2 ^ k - 1) (2 ^ k))) = ap length order ∙ length-append mid.order (filter f (range_with_len (2 ^ k - 1) (2 ^ k))) in
          omega (arith, count_few f (2 ^ k - 1) (2 ^ k), l.few (suc k) at, two-pow-succ k, pow_pos k));
    }

pub levels_room : (p : Params) (n k many : ℕ) (old mid : Buckets) → n + suc k ≡ p.levels + 1 → many ≡ 2 ^ k → length old.versions ≡ buckets p → ListsLevels p n old mid → ((many - 1) + many ≤ length mid.versions) × (length mid.order + many ≤ length mid.versions) × (length mid.versions < 4294967296)
levels_room p n k many old mid at is whole l =
    let same : length mid.versions ≡ buckets p = ap (λ (s : Buckets). length s.versions) l.is ∙ whole in
    let few : length mid.order + (2 ^ suc k - 1) ≤ buckets p = l.few (suc k) at in
    let most : buckets p ≤ 131071 = buckets_le p in
    let twice : 2 ^ suc k ≡ 2 ^ k + 2 ^ k = two-pow-succ k in
    let some : 0 < 2 ^ k = pow_pos k in
    (omega arith, omega arith, omega arith)

pub levels_all : (p : Params) (n : ℕ) (old new : Buckets) → n ≡ p.levels + 1 → ListsLevels p n old new → new ≡ record old { order = filter (λ u. is_lifted old u) (by_falling_level (p.levels + 1)) }
levels_all p n old new at l = l.is ∙ (λ i. record old { order = (sym (append_none new.order) ∙ l.listed 0 (omega arith)) i })
