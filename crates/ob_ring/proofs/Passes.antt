-- One pass over the keys does what walks over them do, bucket after bucket.
use Rattle.std.specs.Prelude.{◌≡◌, ℕ, ◌+◌, ◌==◌, Bool, true, false, cond, ◌||◌, List, [], ◌∷◌, Option}
use Rattle.std.specs.declared.option.Option.TheVariants.{None, Some}
use Rattle.std.specs.List.{find}
use Rattle.std.proofs.Common.{arith, refl, sym, ap, ◌∙◌, inl, inr}
use Rattle.std.proofs.lemmas.Bool.{true≢false, false≢true, cases_Bool, eqb-true, eq-eqb, ne_eqb, or_left, or_right, or_parts}
use Rattle.ob_base.specs.declared.params.Params.{Params}
use Rattle.ob_base.specs.Tree.{below}
use Rattle.ob_schedule.specs.Paths.{is_one_of}
use Rattle.ob_ring.specs.FlatTable.{FlatTable, Row, placed, fill, fills}
use Rattle.ob_ring.proofs.Members.{IsDistinct, distinct-range}
use Rattle.ob_ring.specs.Passing.{one_more}
use Rattle.ob_ring.proofs.Walks.{takes, walked, placed_off, fill_walked}

-- the first bucket of a list that takes a row, and what then becomes of the row
abbrev pub goes_in : Params → List ℕ → (ℕ → ℕ) → Option Row → Option ℕ
goes_in p us taken r = find (λ u. takes p u (taken u) r) us

abbrev pub put_in : Option ℕ → (ℕ → ℕ) → Option Row → Option Row
put_in None taken r = r
put_in (Some u) taken r = placed u true (taken u) r

-- one pass over these keys, each into the first bucket of the list that takes it
abbrev pub passed : Params → List ℕ → (ℕ → Option Row) → (ℕ → ℕ) → List ℕ → ℕ → Option Row
passed p us r taken [] j = r j
passed p us r taken (k ∷ ks) j = cond (k == j) (put_in (goes_in p us taken (r k)) taken (r k)) (passed p us r (one_more (goes_in p us taken (r k)) taken) ks j)

-- two counts agree on the buckets of a list
abbrev Agree : List ℕ → (ℕ → ℕ) → (ℕ → ℕ) → Type 0
Agree us c c' = (v : ℕ) → is_one_of us v ≡ true → c v ≡ c' v

record SameStep (us : List ℕ) (c c' : ℕ → ℕ) (o o' : Option ℕ) (r : Option Row) : Type 0 where
  same : o ≡ o'
  put : put_in o c r ≡ put_in o' c' r
  next : (v : ℕ) → c v ≡ c' v → one_more o c v ≡ one_more o' c' v

head_in : (u : ℕ) (us : List ℕ) → is_one_of (u ∷ us) u ≡ true
head_in u us = or_left (u == u) (is_one_of us u) (eq-eqb u u refl)

tail_agrees : (u : ℕ) (us : List ℕ) (c c' : ℕ → ℕ) → Agree (u ∷ us) c c' → Agree us c c'
tail_agrees u us c c' h v on = h v (or_right (u == v) (is_one_of us v) on)

find_same : (p : Params) (us : List ℕ) (c c' : ℕ → ℕ) (r : Option Row) → Agree us c c' → goes_in p us c r ≡ goes_in p us c' r
find_same p [] c c' r h = refl
find_same p (u ∷ us) c c' r h = (λ i. cond (takes p u (h u (head_in u us) i) r) (Some u) (find_same p us c c' r (tail_agrees u us c c' h) i))

put_same : (p : Params) (us : List ℕ) (c c' : ℕ → ℕ) (r r' : Option Row) → Agree us c c' → put_in (goes_in p us c r) c r' ≡ put_in (goes_in p us c r) c' r'
put_same p [] c c' r r' h = refl
put_same p (u ∷ us) c c' r r' h = by (takes p u (c u) r) (put_same p us c c' r r' (tail_agrees u us c c' h))
  where
    by : (b : Bool) → put_in (goes_in p us c r) c r' ≡ put_in (goes_in p us c r) c' r' → put_in (cond b (Some u) (goes_in p us c r)) c r' ≡ put_in (cond b (Some u) (goes_in p us c r)) c' r'
    by true rest = ap (λ (n : ℕ). placed u true n r') (h u (head_in u us))
    by false rest = rest

next_same : (o : Option ℕ) (c c' : ℕ → ℕ) (v : ℕ) → c v ≡ c' v → one_more o c v ≡ one_more o c' v
next_same None c c' v e = e
next_same (Some u) c c' v e = ap (λ (n : ℕ). cond (v == u) (n + 1) n) e

-- a bucket that isn't in the list takes nothing
others_keep : (p : Params) (us : List ℕ) (c c' : ℕ → ℕ) (r : Option Row) (u : ℕ) → is_one_of us u ≡ false → one_more (goes_in p us c r) c' u ≡ c' u
others_keep p [] c c' r u off = refl
others_keep p (v ∷ us) c c' r u off = by (takes p v (c v) r) (others_keep p us c c' r u (or_parts (v == u) (is_one_of us u) off).1)
  where
    by : (b : Bool) → one_more (goes_in p us c r) c' u ≡ c' u → one_more (cond b (Some v) (goes_in p us c r)) c' u ≡ c' u
    by true rest = ap (λ (b : Bool). cond b (c' u + 1) (c' u)) (ne_eqb u v (λ e. true≢false (sym (eq-eqb v u (sym e)) ∙ (or_parts (v == u) (is_one_of us u) off).0)))
    by false rest = rest

-- a row that was put into a bucket goes nowhere
put_stays : (p : Params) (us : List ℕ) (c : ℕ → ℕ) (u i : ℕ) (r : Option Row) → goes_in p us c (placed u true i r) ≡ None
put_stays p [] c u i r = refl
put_stays p (v ∷ us) c u i None = put_stays p us c u i None
put_stays p (v ∷ us) c u i (Some r) = put_stays p us c u i (Some r)

-- ---- one bucket more

pub bucket_more : (p : Params) (u : ℕ) (us : List ℕ) (r F : ℕ → Option Row) (c c' : ℕ → ℕ) (m : ℕ) (ks : List ℕ) (j : ℕ) → is_one_of us u ≡ false → IsDistinct ks → m ≡ c u → Agree us c c' →
    ((x : ℕ) → is_one_of ks x ≡ true → F x ≡ walked p u r m ks x) → is_one_of ks j ≡ true → passed p (u ∷ us) r c ks j ≡ passed p us F c' ks j
bucket_more p u us r F c c' m [] j apart d from agree rows_are on = absurd (false≢true on)
bucket_more p u us r F c c' m (k ∷ ks) j apart d from agree rows_are on = by (takes p u m (r k)) refl
    (λ c2 c2' m2 e a2 f. bucket_more p u us r F c2 c2' m2 ks j apart d.1 e a2 f)
  where
    here : F k ≡ placed u (takes p u m (r k)) m (r k)
    here = rows_are k (head_in k ks) ∙ ap (λ (b : Bool). cond b (placed u (takes p u m (r k)) m (r k)) (walked p u r (m + cond (takes p u m (r k)) 1 0) ks k)) (eq-eqb k k refl)

    later : (x : ℕ) → is_one_of ks x ≡ true → F x ≡ walked p u r (m + cond (takes p u m (r k)) 1 0) ks x
    later x at = rows_are x (or_right (k == x) (is_one_of ks x) at)
        ∙ ap (λ (b : Bool). cond b (placed u (takes p u m (r k)) m (r k)) (walked p u r (m + cond (takes p u m (r k)) 1 0) ks x)) (ne_eqb k x (λ e. true≢false (sym at ∙ ap (is_one_of ks) (sym e) ∙ d.0)))

    test : takes p u (c u) (r k) ≡ takes p u m (r k)
    test = ap (λ (n : ℕ). takes p u n (r k)) (sym from)

    -- at the head, or further on
    split : (a b : Option Row) (xs ys : Option Row) → a ≡ b → (is_one_of ks j ≡ true → xs ≡ ys) → cond (k == j) a xs ≡ cond (k == j) b ys
    split a b xs ys e f = go (k == j) on
      where
        go : (s : Bool) → (s || is_one_of ks j) ≡ true → cond s a xs ≡ cond s b ys
        go true o = e
        go false o = f o

    by : (b : Bool) → takes p u m (r k) ≡ b →
        ((c2 c2' : ℕ → ℕ) (m2 : ℕ) → m2 ≡ c2 u → Agree us c2 c2' → ((x : ℕ) → is_one_of ks x ≡ true → F x ≡ walked p u r m2 ks x) → is_one_of ks j ≡ true → passed p (u ∷ us) r c2 ks j ≡ passed p us F c2' ks j) →
        passed p (u ∷ us) r c (k ∷ ks) j ≡ passed p us F c' (k ∷ ks) j
    by true is rest =
        let goes : goes_in p (u ∷ us) c (r k) ≡ Some u = ap (λ (b : Bool). cond b (Some u) (goes_in p us c (r k))) (test ∙ is) in
        let there : F k ≡ placed u true m (r k) = here ∙ ap (λ (b : Bool). placed u b m (r k)) is in
        let stays : goes_in p us c' (F k) ≡ None = ap (goes_in p us c') there ∙ put_stays p us c' u m (r k) in
        (λ i. cond (k == j) (put_in (goes i) c (r k)) (passed p (u ∷ us) r (one_more (goes i) c) ks j))
        ∙ split (placed u true (c u) (r k)) (F k) (passed p (u ∷ us) r (one_more (Some u) c) ks j) (passed p us F c' ks j)
        (ap (λ (n : ℕ). placed u true n (r k)) (sym from) ∙ sym there)
        (rest (one_more (Some u) c) c' (m + 1)
        (ap (λ (n : ℕ). n + 1) from ∙ sym (ap (λ (b : Bool). cond b (c u + 1) (c u)) (eq-eqb u u refl)))
        (λ v at. ap (λ (b : Bool). cond b (c v + 1) (c v)) (ne_eqb v u (λ e. true≢false (sym at ∙ ap (is_one_of us) e ∙ apart))) ∙ agree v at)
        (λ x at. later x at ∙ ap (λ (b : Bool). walked p u r (m + cond b 1 0) ks x) is))
        ∙ (λ i. cond (k == j) (put_in (sym stays i) c' (F k)) (passed p us F (one_more (sym stays i) c') ks j))
    by false is rest =
        let goes : goes_in p (u ∷ us) c (r k) ≡ goes_in p us c (r k) = ap (λ (b : Bool). cond b (Some u) (goes_in p us c (r k))) (test ∙ is) in
        let there : F k ≡ r k = here ∙ ap (λ (b : Bool). placed u b m (r k)) is ∙ placed_off u m (r k) in
        let same : goes_in p us c (r k) ≡ goes_in p us c' (F k) = find_same p us c c' (r k) agree ∙ ap (goes_in p us c') (sym there) in
        let none : m + 0 ≡ m = omega arith in
        (λ i. cond (k == j) (put_in (goes i) c (r k)) (passed p (u ∷ us) r (one_more (goes i) c) ks j))
        ∙ split (put_in (goes_in p us c (r k)) c (r k)) (put_in (goes_in p us c' (F k)) c' (F k)) (passed p (u ∷ us) r (one_more (goes_in p us c (r k)) c) ks j) (passed p us F (one_more (goes_in p us c' (F k)) c') ks j)
        (put_same p us c c' (r k) (r k) agree ∙ (λ i. put_in (same i) c' (sym there i)))
        (rest (one_more (goes_in p us c (r k)) c) (one_more (goes_in p us c' (F k)) c') m
        (from ∙ sym (others_keep p us c c (r k) u apart))
        (λ v at. next_same (goes_in p us c (r k)) c c' v (agree v at) ∙ ap (λ (o : Option ℕ). one_more o c' v) same)
        (λ x at. later x at ∙ ap (λ (b : Bool). walked p u r (m + cond b 1 0) ks x) is ∙ ap (λ (n : ℕ). walked p u r n ks x) none))

-- ---- all of them

passed_none : (p : Params) (r : ℕ → Option Row) (c : ℕ → ℕ) (ks : List ℕ) (j : ℕ) → passed p [] r c ks j ≡ r j
passed_none p r c [] j = refl
passed_none p r c (k ∷ ks) j = by (k == j) refl (passed_none p r c ks j)
  where
    by : (b : Bool) → (k == j) ≡ b → passed p [] r c ks j ≡ r j → cond b (r k) (passed p [] r (one_more None c) ks j) ≡ r j
    by true e rest = ap r (eqb-true k j e)
    by false e rest = rest

pub passed_others : (p : Params) (us : List ℕ) (r : ℕ → Option Row) (c : ℕ → ℕ) (ks : List ℕ) (j : ℕ) → is_one_of ks j ≡ false → passed p us r c ks j ≡ r j
passed_others p us r c [] j off = refl
passed_others p us r c (k ∷ ks) j off =
    ap (λ (b : Bool). cond b (put_in (goes_in p us c (r k)) c (r k)) (passed p us r (one_more (goes_in p us c (r k)) c) ks j)) (or_parts (k == j) (is_one_of ks j) off).0
    ∙ passed_others p us r (one_more (goes_in p us c (r k)) c) ks j (or_parts (k == j) (is_one_of ks j) off).1

walked_others : (p : Params) (u : ℕ) (r : ℕ → Option Row) (m : ℕ) (ks : List ℕ) (j : ℕ) → is_one_of ks j ≡ false → walked p u r m ks j ≡ r j
walked_others p u r m [] j off = refl
walked_others p u r m (k ∷ ks) j off =
    ap (λ (b : Bool). cond b (placed u (takes p u m (r k)) m (r k)) (walked p u r (m + cond (takes p u m (r k)) 1 0) ks j)) (or_parts (k == j) (is_one_of ks j) off).0
    ∙ walked_others p u r (m + cond (takes p u m (r k)) 1 0) ks j (or_parts (k == j) (is_one_of ks j) off).1

-- Filling buckets one after another is one pass, each row into the first bucket of the list that takes it.
pub fills_passed : (p : Params) (t : FlatTable) (us : List ℕ) (j : ℕ) → IsDistinct us → (fills p t us).rows j ≡ passed p us t.rows (λ u. 0) (below p.keys) j
fills_passed p t [] j d = sym (passed_none p t.rows (λ u. 0) (below p.keys) j)
fills_passed p t (u ∷ us) j d = fills_passed p (fill p t u) us j d.1 ∙ elim (cases_Bool (is_one_of (below p.keys) j)) [
  | inl on ↦ sym (bucket_more p u us t.rows (fill p t u).rows (λ v. 0) (λ v. 0) 0 (below p.keys) j d.0 (distinct-range 0 p.keys) refl (λ v at. refl) (λ x at. fill_walked p t u x) on)
  | inr off ↦ passed_others p us (fill p t u).rows (λ v. 0) (below p.keys) j off ∙ fill_walked p t u j ∙ walked_others p u t.rows 0 (below p.keys) j off ∙ sym (passed_others p (u ∷ us) t.rows (λ v. 0) (below p.keys) j off)
]
