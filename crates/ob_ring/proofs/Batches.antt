-- What a batch and the final lifts show is the schedule's list of holes.
use Rattle.std.specs.Prelude.{◌≡◌, ℕ, ◌+◌, ◌<◌, ◌==◌, nat_lt, nat_le, Bool, true, false, cond, not, ◌&&◌, ◌||◌, List, [], ◌∷◌, ◌++◌, map, length, filter, take, Option, slice_index}
use Rattle.std.specs.declared.option.Option.TheVariants.{None, Some}
use Rattle.std.specs.List.{range_with_len, count_by, flat_map}
use Rattle.ob_ring.proofs.Members.{or_assoc}
use Rattle.std.proofs.Common.{zero, suc, add-one, arith, refl, sym, ap, ◌∙◌, inl, inr}
use Rattle.std.proofs.lemmas.Bool.{eq-eqb, ne_eqb, lt-ltb, le-ltb, cases_eq, or_left, or_right, or_parts, leb-true, leb-false}
use Rattle.ob_ring.proofs.Counts.{count_by-cons}
use Rattle.ob_base.specs.declared.params.Params.{Params}
use Rattle.ob_base.specs.Tree.{path, passes}
use Rattle.ob_schedule.specs.Paths.{is_one_of, eviction_path}
use Rattle.ob_ring.specs.FlatTable.{FlatTable, In, spot_of, asked_row, fetch, leaf_shown, place_shown, after_place, batch_shown, after_batch, leaves_shown, reads, lift, lift_order, lift_shown, final_shown, after_final}
use Rattle.ob_schedule.specs.Holes.{Hole, lift_holes, place_holes, passes_before, batch_holes, firsts, final_holes}
use Rattle.ob_ring.specs.Sound.{Placed, IsSound}
use Rattle.ob_ring.proofs.Sounds.{sound_fetch, vacant_fetch, sound_lift}
use Rattle.ob_ring.proofs.LiftOrder.{length-lift_order}
use Rattle.ob_ring.specs.Sound.{hole_of, IsCounted}
use Rattle.ob_ring.proofs.Visits.{VisitsLaw, visits_law, counted_like, map-append, holes-numbered}
use Rattle.ob_ring.proofs.Paths.{distinct_path}

pub own_is_free : (p : Params) (t : FlatTable) (ask : Option ℕ) → IsSound p t → (u j : ℕ) → spot_of (asked_row t ask) ≡ In u j → (j < p.real) × (t.used u j ≡ false)
own_is_free p t None s u j e = absurd (cc)
own_is_free p t (Some k) s u j e = let at : Placed p t k u j = s.placed k u j e in (at.real, at.unread)

abbrev pub passed : Params → ℕ → (ℕ → ℕ) → ℕ → ℕ
passed p leaf count u = count u + cond (passes p u leaf) 1 0

pub record PlaceLaw (p : Params) (t : FlatTable) (ask : Option ℕ) (leaf : ℕ) (count : ℕ → ℕ) : Type 0 where
  pub holes : map hole_of (place_shown p t ask leaf) ≡ place_holes p count (leaf_shown t ask leaf)
  pub counted : IsCounted p (after_place p t ask leaf) (passed p (leaf_shown t ask leaf) count)
  pub sound : IsSound p (after_place p t ask leaf)

pub place_law : (p : Params) (t : FlatTable) (ask : Option ℕ) (leaf : ℕ) (count : ℕ → ℕ) → IsSound p t → IsCounted p t count → PlaceLaw p t ask leaf count
place_law p t ask leaf count s c =
    let v : VisitsLaw p (fetch t ask leaf) (spot_of (asked_row t ask)) (path p (leaf_shown t ask leaf)) count =
    visits_law p (fetch t ask leaf) (spot_of (asked_row t ask)) (path p (leaf_shown t ask leaf)) count (distinct_path p (leaf_shown t ask leaf))
    (sound_fetch p t ask leaf s) (record { lifted_is = c.lifted_is; reads_is = c.reads_is }) (λ k u j. vacant_fetch p t ask leaf s k u j)
    (λ u j on. own_is_free p t ask s u j) in
    record { holes = v.holes; counted = v.counted; sound = v.sound }

-- ---- a batch, place by place, and then as counts

abbrev by_places : Params → (ℕ → ℕ) → List ℕ → List Hole
by_places p count [] = []
by_places p count (x ∷ xs) = place_holes p count x ++ by_places p (passed p x count) xs

pub shift_range : {A : Type 0} (f : ℕ → List A) (a n : ℕ) → flat_map f (range_with_len (a + 1) n) ≡ flat_map (λ i. f (i + 1)) (range_with_len a n)
shift_range f a zero = refl
shift_range f a (suc n) = ap (λ xs. f (a + 1) ++ xs) (shift_range f (a + 1) n)

pub count_more : (p : Params) (count : ℕ → ℕ) (x : ℕ) (xs : List ℕ) (i u : ℕ) → count u + passes_before p (x ∷ xs) (i + 1) u ≡ passed p x count u + passes_before p xs i u
count_more p count x xs i u = let e : i + 1 ≡ suc i = omega arith in ap (λ (n : ℕ). count u + passes_before p (x ∷ xs) n u) e ∙ omega (arith, count_by-cons (passes p u) x (take i xs))

pub at_next : (x : ℕ) (xs : List ℕ) (i : ℕ) → slice_index (x ∷ xs) (i + 1) ≡ slice_index xs i
at_next x xs i = rw add-one refl

place_as_counts : (p : Params) (count : ℕ → ℕ) (x : ℕ) (xs : List ℕ) → place_holes p (λ u. count u + passes_before p (x ∷ xs) 0 u) x ≡ place_holes p count x
place_as_counts p count x xs = λ i. place_holes p (λ u. (let e : count u + 0 ≡ count u = omega arith in e) i) x

by_places_as_counts : (p : Params) (count : ℕ → ℕ) (xs : List ℕ) → by_places p count xs ≡ batch_holes p count xs
by_places_as_counts p count [] = refl
by_places_as_counts p count (x ∷ xs) =
    let F : ℕ → List Hole = λ i. place_holes p (λ u. count u + passes_before p (x ∷ xs) i u) (slice_index (x ∷ xs) i) in
    let G : ℕ → List Hole = λ i. place_holes p (λ u. passed p x count u + passes_before p xs i u) (slice_index xs i) in
    let next : (λ i. F (i + 1)) ≡ G = λ j i. place_holes p (λ u. count_more p count x xs i u j) (at_next x xs i j) in
    let rest : flat_map F (range_with_len (0 + 1) (length xs)) ≡ flat_map G (range_with_len 0 (length xs)) =
    shift_range F 0 (length xs) ∙ ap (λ (f : ℕ → List Hole). flat_map f (range_with_len 0 (length xs))) next in
    let first : place_holes p count x ≡ F 0 = sym (place_as_counts p count x xs) in
    (λ i. first i ++ (by_places_as_counts p (passed p x count) xs ∙ sym rest) i)

pub record BatchLaw (p : Params) (t : FlatTable) (places : List (Option ℕ × ℕ)) (count : ℕ → ℕ) : Type 0 where
  pub holes : map hole_of (batch_shown p t places) ≡ batch_holes p count (leaves_shown p t places)
  pub counted : IsCounted p (after_batch p t places) (λ u. count u + count_by (passes p u) (leaves_shown p t places))
  pub sound : IsSound p (after_batch p t places)

record ByPlaces (p : Params) (t : FlatTable) (places : List (Option ℕ × ℕ)) (count : ℕ → ℕ) : Type 0 where
  holes : map hole_of (batch_shown p t places) ≡ by_places p count (leaves_shown p t places)
  counted : IsCounted p (after_batch p t places) (λ u. count u + count_by (passes p u) (leaves_shown p t places))
  sound : IsSound p (after_batch p t places)

batch_by_places : (p : Params) (t : FlatTable) (places : List (Option ℕ × ℕ)) (count : ℕ → ℕ) → IsSound p t → IsCounted p t count → ByPlaces p t places count
batch_by_places p t [] count s c = record { holes = refl; counted = counted_like p t count (λ u. count u + 0) (λ u. omega arith) c; sound = s }
batch_by_places p t (a ∷ rest) count s c =
    let one : PlaceLaw p t a.0 a.1 count = place_law p t a.0 a.1 count s c in
    let x : ℕ = leaf_shown t a.0 a.1 in
    let t1 : FlatTable = after_place p t a.0 a.1 in
    let more : ByPlaces p t1 rest (passed p x count) = batch_by_places p t1 rest (passed p x count) one.sound one.counted in
    record {
      holes = map-append hole_of (place_shown p t a.0 a.1) (batch_shown p t1 rest) ∙ (λ i. one.holes i ++ more.holes i);
      counted = counted_like p (after_batch p t1 rest) (λ u. passed p x count u + count_by (passes p u) (leaves_shown p t1 rest)) (λ u. count u + count_by (passes p u) (x ∷ leaves_shown p t1 rest))
          (λ u. omega (arith, count_by-cons (passes p u) x (leaves_shown p t1 rest))) more.counted;
      sound = more.sound;
    }

-- the reads of a batch are the schedule's, whatever the words, the keys and the rows are
pub batch_law : (p : Params) (t : FlatTable) (places : List (Option ℕ × ℕ)) (count : ℕ → ℕ) → IsSound p t → IsCounted p t count → BatchLaw p t places count
batch_law p t places count s c =
    let b : ByPlaces p t places count = batch_by_places p t places count s c in
    record { holes = b.holes ∙ by_places_as_counts p count (leaves_shown p t places); counted = b.counted; sound = b.sound }

-- ---- the final lifts

-- after some final lifts: a bucket is lifted where the counts reach the limit or a final lift took it
pub record IsLifting (p : Params) (t : FlatTable) (count : ℕ → ℕ) (taken : ℕ → Bool) : Type 0 where
  pub lifted_is : (u : ℕ) → t.lifted u ≡ (taken u || nat_le p.dummies (count u))
  pub reads_is : (u : ℕ) → count u < p.dummies → reads p t u ≡ count u

abbrev final_at : Params → (ℕ → ℕ) → ℕ → List Hole
final_at p count u = cond (nat_lt (count u) p.dummies) (lift_holes p u (count u)) []

abbrev taken_too : ℕ → (ℕ → Bool) → ℕ → Bool
taken_too u taken v = (v == u) || taken v

abbrev by_turns : Params → (ℕ → ℕ) → (ℕ → Bool) → List ℕ → List Hole
by_turns p count taken [] = []
by_turns p count taken (u ∷ us) = cond (taken u) [] (final_at p count u) ++ by_turns p count (taken_too u taken) us

pub record FinalLaw (p : Params) (t : FlatTable) (count : ℕ → ℕ) (taken : ℕ → Bool) (us : List ℕ) : Type 0 where
  pub holes : map hole_of (final_shown p t us) ≡ by_turns p count taken us
  pub lifted_is : (u : ℕ) → (after_final p t us).lifted u ≡ (is_one_of us u || (taken u || nat_le p.dummies (count u)))
  pub sound : IsSound p (after_final p t us)

quiet : (p : Params) (count : ℕ → ℕ) (u : ℕ) (b : Bool) → (b || nat_le p.dummies (count u)) ≡ true → cond b [] (final_at p count u) ≡ []
quiet p count u true e = refl
quiet p count u false e = rw (le-ltb (count u) p.dummies (leb-true p.dummies (count u) e)) refl

taken_true : (u v : ℕ) (a b x : Bool) → x ≡ (a || b) → ((v ≡ u) → x ≡ true) → x ≡ (((v == u) || a) || b)
taken_true u v a b x e f = elim (cases_eq v u) [
  | inl same ↦ f same ∙ sym (or_left ((v == u) || a) b (or_left (v == u) a (eq-eqb v u same)))
  | inr ne ↦ e ∙ sym (ap (λ (y : Bool). (y || a) || b) (ne_eqb v u ne))
]

taken_now : (u v : ℕ) (a b x : Bool) → x ≡ (a || b) → ((v == u) || x) ≡ (((v == u) || a) || b)
taken_now u v a b x e = ap (λ (y : Bool). (v == u) || y) e ∙ or_assoc (v == u) a b

pub record LiftStep (p : Params) (t t' : FlatTable) (count : ℕ → ℕ) (taken : ℕ → Bool) (u : ℕ) : Type 0 where
  pub holes : map hole_of (cond (t.lifted u) [] (lift_shown p t u)) ≡ cond (taken u) [] (final_at p count u)
  pub sound : IsSound p t'
  pub lifting : IsLifting p t' count (taken_too u taken)

lift_step : (p : Params) (t : FlatTable) (count : ℕ → ℕ) (taken : ℕ → Bool) (u : ℕ) → IsSound p t → IsLifting p t count taken → (b : Bool) → t.lifted u ≡ b → LiftStep p t (cond (t.lifted u) t (lift t u)) count taken u
lift_step p t count taken u s c true is = record {
  holes = rw is (sym (quiet p count u (taken u) (sym (c.lifted_is u) ∙ is)));
  sound = rw is s;
  lifting = rw is (record { lifted_is = λ v. taken_true u v (taken v) (nat_le p.dummies (count v)) (t.lifted v) (c.lifted_is v) (λ same. ap t.lifted same ∙ is); reads_is = c.reads_is });
}
lift_step p t count taken u s c false is =
    let parts : (taken u ≡ false) × (nat_le p.dummies (count u) ≡ false) = or_parts (taken u) (nat_le p.dummies (count u)) (sym (c.lifted_is u) ∙ is) in
    let low : count u < p.dummies = leb-false p.dummies (count u) parts.1 in
    let many : reads p t u ≡ count u = c.reads_is u low in
    record {
      holes = rw (is, parts.0, lt-ltb (count u) p.dummies low)
          (holes-numbered u (reads p t u) (lift_order p t u) ∙ (λ i. map (λ n. record { bucket = u; number = n }) (range_with_len (many i) (length-lift_order p t u s (omega arith) i))));
      sound = rw is (sound_lift p t u s);
      lifting = rw is (record { lifted_is = λ v. taken_now u v (taken v) (nat_le p.dummies (count v)) (t.lifted v) (c.lifted_is v); reads_is = c.reads_is });
    }

one_more : (us : List ℕ) (u v : ℕ) (a b : Bool) → (is_one_of us v || (((v == u) || a) || b)) ≡ (((u == v) || is_one_of us v) || (a || b))
one_more us u v a b = elim (cases_eq v u) [
  | inl same ↦ rw (same, eq-eqb u u refl) (or_right (is_one_of us u) true refl)
  | inr ne ↦ rw (ne_eqb v u ne, ne_eqb u v (λ e. ne (sym e))) refl
]

pub final_law : (p : Params) (t : FlatTable) (count : ℕ → ℕ) (taken : ℕ → Bool) (us : List ℕ) → IsSound p t → IsLifting p t count taken → FinalLaw p t count taken us
final_law p t count taken [] s c = record { holes = refl; lifted_is = c.lifted_is; sound = s }
final_law p t count taken (u ∷ us) s c =
    let t1 : FlatTable = cond (t.lifted u) t (lift t u) in
    let one : LiftStep p t t1 count taken u = lift_step p t count taken u s c (t.lifted u) refl in
    let rest : FinalLaw p t1 count (taken_too u taken) us = final_law p t1 count (taken_too u taken) us one.sound one.lifting in
    record {
      holes = map-append hole_of (cond (t.lifted u) [] (lift_shown p t u)) (final_shown p t1 us) ∙ (λ i. one.holes i ++ rest.holes i);
      lifted_is = λ v. rest.lifted_is v ∙ one_more us u v (taken v) (nat_le p.dummies (count v));
      sound = rest.sound;
    }

-- each bucket once, at its first place
filter_case : (a b : ℕ → Bool) (x : ℕ) (ys : List ℕ) (s t : Bool) → a x ≡ s → b x ≡ t → filter a (cond t (x ∷ ys) ys) ≡ cond (t && s) (x ∷ filter a ys) (filter a ys)
filter_case a b x ys s true e f = rw e refl
filter_case a b x ys s false e f = refl

filter_filter : (a b : ℕ → Bool) (xs : List ℕ) → filter a (filter b xs) ≡ filter (λ x. b x && a x) xs
filter_filter a b [] = refl
filter_filter a b (x ∷ xs) = filter_case a b x (filter b xs) (a x) (b x) refl refl ∙ (λ i. cond (b x && a x) (x ∷ filter_filter a b xs i) (filter_filter a b xs i))

not_either : (a b : Bool) → (not a && not b) ≡ not (a || b)
not_either true b = refl
not_either false b = refl

turns_case : (p : Params) (count : ℕ → ℕ) (u : ℕ) (zs : List ℕ) (b : Bool) → cond b [] (final_at p count u) ++ flat_map (final_at p count) zs ≡ flat_map (final_at p count) (cond (not b) (u ∷ zs) zs)
turns_case p count u zs true = refl
turns_case p count u zs false = refl

pub turns_as_firsts : (p : Params) (count : ℕ → ℕ) (taken : ℕ → Bool) (us : List ℕ) → by_turns p count taken us ≡ flat_map (final_at p count) (filter (λ u. not (taken u)) (firsts us))
turns_as_firsts p count taken [] = refl
turns_as_firsts p count taken (u ∷ us) =
    let inner : filter (λ v. not (taken v)) (filter (λ v. not (v == u)) (firsts us)) ≡ filter (λ v. not (taken_too u taken v)) (firsts us) =
    filter_filter (λ v. not (taken v)) (λ v. not (v == u)) (firsts us) ∙ ap (λ (f : ℕ → Bool). filter f (firsts us)) (λ i v. not_either (v == u) (taken v) i) in
    ap (λ (hs : List Hole). cond (taken u) [] (final_at p count u) ++ hs) (turns_as_firsts p count (taken_too u taken) us)
    ∙ turns_case p count u (filter (λ v. not (taken_too u taken v)) (firsts us)) (taken u)
    ∙ ap (λ (zs : List ℕ). flat_map (final_at p count) (cond (not (taken u)) (u ∷ zs) zs)) (sym inner)

filter_true : (xs : List ℕ) → filter (λ x. true) xs ≡ xs
filter_true [] = refl
filter_true (x ∷ xs) = ap (λ ys. x ∷ ys) (filter_true xs)

-- the final lifts read the schedule's holes
pub final_holes_law : (p : Params) (t : FlatTable) (count : ℕ → ℕ) → IsSound p t → IsCounted p t count → map hole_of (final_shown p t (eviction_path p t.counter)) ≡ final_holes p count t.counter
final_holes_law p t count s c =
    (final_law p t count (λ u. false) (eviction_path p t.counter) s (record { lifted_is = c.lifted_is; reads_is = c.reads_is })).holes
    ∙ turns_as_firsts p count (λ u. false) (eviction_path p t.counter)
    ∙ ap (flat_map (final_at p count)) (filter_true (firsts (eviction_path p t.counter)))
