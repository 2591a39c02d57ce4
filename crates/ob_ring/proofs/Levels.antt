-- The first bucket of the refill's order that takes a row is the deepest one of its path that does.
use Rattle.std.specs.Prelude.{◌≡◌, ℕ, ◌+◌, ◌-◌, ◌*◌, ◌/◌, ◌^◌, ◌<◌, ◌≤◌, ◌==◌, nat_lt, Bool, true, false, cond, ◌&&◌, List, [], ◌∷◌, filter, Option}
use Rattle.std.specs.declared.option.Option.TheVariants.{None, Some}
use Rattle.std.specs.Option.{option_or}
use Rattle.std.specs.List.{find, range_with_len}
use Rattle.std.proofs.Common.{zero, suc, arith, refl, sym, ap, subst, ◌∙◌, inl, inr, pow-add}
use Rattle.std.proofs.Math.Nat.{two-pow-succ, div-lt_iff_lt-mul}
use Rattle.std.proofs.lemmas.Nat.{pow_pos}
use Rattle.std.proofs.lemmas.Bool.{cases_eq, cases_lt, eq-eqb, ne_eqb}
use Rattle.std.proofs.lemmas.List.Folds.{find-append}
use Rattle.ob_base.specs.declared.params.Params.{Params}
use Rattle.ob_base.specs.Tree.{bucket_of, passes}
use Rattle.ob_base.proofs.Bounds.{power_le}
use Rattle.ob_schedule.specs.Paths.{by_falling_level}
use Rattle.ob_ring.specs.FlatTable.{FlatTable, Row, in_stash, is_stash, leaf_of, refill_order}
use Rattle.ob_ring.proofs.Members.{off_unless}
use Rattle.ob_ring.proofs.Lows.{one_of-map-range}
use Rattle.ob_ring.proofs.FillParts.{passes_at}
use Rattle.ob_ring.specs.Passing.{upwards, has_room, goes_to}
use Rattle.ob_ring.proofs.Walks.{takes}
use Rattle.ob_ring.proofs.Passes.{goes_in}

-- ---- a level's buckets

record OfLevel (n u : ℕ) : Type 0 where
  from : 2 ^ n - 1 ≤ u
  to : u < (2 ^ n - 1) + 2 ^ n

level_of : (p : Params) (leaf n : ℕ) → leaf < 2 ^ p.levels → n ≤ p.levels → OfLevel n (bucket_of p n leaf)
level_of p leaf n low h =
    let whole : 2 ^ n * 2 ^ (p.levels - n) ≡ 2 ^ p.levels = sym (pow-add 2 n (p.levels - n)) ∙ ap (λ (m : ℕ). 2 ^ m) (let z : n + (p.levels - n) ≡ p.levels = omega arith in z) in
    let part : leaf / 2 ^ (p.levels - n) < 2 ^ n = (div-lt_iff_lt-mul (pow_pos (p.levels - n))).1 (omega arith) in
    record { from = omega arith; to = omega arith }

same_level : (i n u : ℕ) → OfLevel i u → OfLevel n u → i ≡ n
same_level i n u a b = elim (cases_lt i n) [
  | inl less ↦ absurd (omega (arith, a.to, b.from, power_le (suc i) n (omega arith), two-pow-succ i, pow_pos i))
  | inr more ↦ elim (cases_eq i n) [
    | inl same ↦ same
    | inr ne ↦ absurd (omega (arith, b.to, a.from, power_le (suc n) i (omega arith), two-pow-succ n, pow_pos n))
  ]
]

passes_level : (p : Params) (leaf n u : ℕ) → leaf < 2 ^ p.levels → n ≤ p.levels → OfLevel n u → passes p u leaf ≡ (u == bucket_of p n leaf)
passes_level p leaf n u low h of = elim (cases_eq u (bucket_of p n leaf)) [
  | inl at ↦ passes_at p u leaf n h (sym at) ∙ sym (eq-eqb u (bucket_of p n leaf) at)
  | inr ne ↦ off_unless (passes p u leaf) (λ on. (
      let r : (i : ℕ) × (i < 0 + (p.levels + 1)) × (bucket_of p i leaf ≡ u) = one_of-map-range (λ level. bucket_of p level leaf) 0 (p.levels + 1) u on in
      let few : r.0 < 0 + (p.levels + 1) = r.1 in
      let under : r.0 ≤ p.levels = omega arith in
      let same : r.0 ≡ n = same_level r.0 n u (subst (λ (v : ℕ). OfLevel r.0 v) r.2 (level_of p leaf r.0 low under)) of in
      ne (sym r.2 ∙ ap (λ (i : ℕ). bucket_of p i leaf) same))) ∙ sym (ne_eqb u (bucket_of p n leaf) ne)
]

-- ---- searching

find_filter : (lifted g : ℕ → Bool) (us : List ℕ) → find g (filter lifted us) ≡ find (λ u. lifted u && g u) us
find_filter lifted g [] = refl
find_filter lifted g (u ∷ us) = by (lifted u) (find_filter lifted g us)
  where
    by : (b : Bool) → find g (filter lifted us) ≡ find (λ u. lifted u && g u) us → find g (cond b (u ∷ filter lifted us) (filter lifted us)) ≡ cond (b && g u) (Some u) (find (λ u. lifted u && g u) us)
    by true e = ap (cond (g u) (Some u)) e
    by false e = e

find_never : (q : ℕ → Bool) (a n : ℕ) → ((u : ℕ) → a ≤ u → u < a + n → q u ≡ false) → find q (range_with_len a n) ≡ None
find_never q a zero h = refl
find_never q a (suc n) h = ap (λ (b : Bool). cond b (Some a) (find q (range_with_len (a + 1) n))) (h a (omega arith) (omega arith)) ∙ find_never q (a + 1) n (λ u f g. h u (omega arith) (omega arith))

find_only : (q s : ℕ → Bool) (a n x : ℕ) → a ≤ x → x < a + n → ((u : ℕ) → a ≤ u → u < a + n → q u ≡ ((u == x) && s u)) → find q (range_with_len a n) ≡ cond (s x) (Some x) None
find_only q s a zero x f g h = absurd (omega arith)
find_only q s a (suc n) x f g h = elim (cases_eq a x) [
  | inl at ↦ (let here : q a ≡ s a = h a (omega arith) (omega arith) ∙ ap (λ (b : Bool). b && s a) (eq-eqb a x at) in
      (λ i. cond (here i) (Some a) (find_never q (a + 1) n (λ u l m. h u (omega arith) (omega arith) ∙ ap (λ (b : Bool). b && s u) (ne_eqb u x (λ e. absurd (omega arith)))) i))
      ∙ ap (λ (y : ℕ). cond (s y) (Some y) None) at)
  | inr ne ↦ (let here : q a ≡ false = h a (omega arith) (omega arith) ∙ ap (λ (b : Bool). b && s a) (ne_eqb a x ne) in
      ap (λ (b : Bool). cond b (Some a) (find q (range_with_len (a + 1) n))) here ∙ find_only q s (a + 1) n x (omega arith) (omega arith) (λ u l m. h u (omega arith) (omega arith)))
]

climb : (p : Params) (leaf : ℕ) (q s : ℕ → Bool) (n : ℕ) → leaf < 2 ^ p.levels → n ≤ p.levels + 1 → ((u : ℕ) → q u ≡ (passes p u leaf && s u)) → find q (by_falling_level n) ≡ find s (upwards p leaf n)
climb p leaf q s zero low h are = refl
climb p leaf q s (suc n) low h are =
    let x : ℕ = bucket_of p n leaf in
    let of : OfLevel n x = level_of p leaf n low (omega arith) in
    let here : find q (range_with_len (2 ^ n - 1) (2 ^ n)) ≡ cond (s x) (Some x) None = find_only q s (2 ^ n - 1) (2 ^ n) x of.from of.to
    (λ u f g. are u ∙ ap (λ (b : Bool). b && s u) (passes_level p leaf n u low (omega arith) (record { from = f; to = g }))) in
    find-append q (range_with_len (2 ^ n - 1) (2 ^ n)) (by_falling_level n)
    ∙ (λ i. option_or (here i) (climb p leaf q s n low (omega arith) are i))
    ∙ or_next (s x) x (find s (upwards p leaf n))
  where
    or_next : (b : Bool) (y : ℕ) (o : Option ℕ) → option_or (cond b (Some y) None) o ≡ cond b (Some y) o
    or_next true y o = refl
    or_next false y o = refl

-- ---- a row's bucket

swap_and : (a b c : Bool) → (a && (b && c)) ≡ (b && (a && c))
swap_and true b c = refl
swap_and false true c = refl
swap_and false false c = refl

no_find : (us : List ℕ) (q : ℕ → Bool) → ((u : ℕ) → q u ≡ false) → find q us ≡ None
no_find [] q h = refl
no_find (u ∷ us) q h = ap (λ (b : Bool). cond b (Some u) (find q us)) (h u) ∙ no_find us q h

deepest_in : (p : Params) (t : FlatTable) (taken : ℕ → ℕ) (r : Row) (b : Bool) → is_stash r.spot ≡ b → (b ≡ true → r.leaf < 2 ^ p.levels) → goes_in p (refill_order p t) taken (Some r) ≡ cond b (find (has_room p t.lifted taken) (upwards p r.leaf (p.levels + 1))) None
deepest_in p t taken r true out low =
    find_filter t.lifted (λ u. takes p u (taken u) (Some r)) (by_falling_level (p.levels + 1))
    ∙ climb p r.leaf (λ u. t.lifted u && takes p u (taken u) (Some r)) (has_room p t.lifted taken) (p.levels + 1) (low refl) (omega arith)
    (λ u. ap (λ (c : Bool). t.lifted u && ((c && passes p u r.leaf) && nat_lt (taken u) p.real)) out ∙ swap_and (t.lifted u) (passes p u r.leaf) (nat_lt (taken u) p.real))
deepest_in p t taken r false out low = no_find (refill_order p t) (λ u. takes p u (taken u) (Some r)) (λ u. ap (λ (c : Bool). (c && passes p u r.leaf) && nat_lt (taken u) p.real) out)

pub deepest : (p : Params) (t : FlatTable) (taken : ℕ → ℕ) (o : Option Row) → (in_stash o ≡ true → leaf_of o 0 < 2 ^ p.levels) → goes_in p (refill_order p t) taken o ≡ goes_to p t.lifted taken o
deepest p t taken None low = no_find (refill_order p t) (λ u. takes p u (taken u) None) (λ u. refl)
deepest p t taken (Some r) low = deepest_in p t taken r (is_stash r.spot) refl low
