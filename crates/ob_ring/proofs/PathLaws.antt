-- Keys on the path of their leaf, and a path's visits.
use Rattle.std.specs.Prelude.{◌≡◌, ◌≢◌, ℕ, ◌+◌, ◌*◌, ◌<◌, ◌≤◌, ◌==◌, Bool, true, false, cond, ◌&&◌, List, [], ◌∷◌, ◌++◌, map, length, Option, slice_index_or, slice_set}
use Rattle.std.specs.declared.option.Option.TheVariants.{None, Some}
use Rattle.std.specs.List.{find, range_with_len}
use Rattle.std.proofs.Common.{zero, suc, arith, refl, sym, ap, subst, ◌∙◌, inl, inr}
use Rattle.std.proofs.lemmas.Bool.{true≢false, false≢true, cases_Bool, cases_eq, cases_lt, eq-eqb, eqb-true, ne_eqb}
use Rattle.std.proofs.lemmas.List.{length-set}
use Rattle.std.proofs.lemmas.List.FromFn.{map-range_with_len_more}
use Rattle.std.proofs.Math.Nat.{mul-le-mul_right}
use Rattle.ob_base.specs.declared.params.Params.{Params}
use Rattle.ob_base.specs.Tree.{buckets, bucket_of, below}
use Rattle.ob_base.specs.Planned.{Planned}
use Rattle.ob_tables.specs.Version.{Version, HasSlots, key_at, used_at, is_key, live_index}
use Rattle.ob_tables.specs.Buckets.{Buckets, version_at, with_version}
use Rattle.ob_ring.specs.declared.found.Found.{Found}
use Rattle.ob_ring.specs.FlatTable.{FlatTable, Spot, InStash, In, spot_of, leaf_of, visit, visits}
use Rattle.ob_ring.specs.Sound.{IsSound, Placed}
use Rattle.ob_ring.specs.Arrays.{IsTableOf, AreWhole, Rest}
use Rattle.ob_ring.specs.Picked.{Picked, Plans, Grows, visit_picked, visits_picked, spot_at}
use Rattle.ob_ring.specs.Filling.{arrays_in}
use Rattle.ob_ring.specs.Paths.{IsFound, IsTakenOut}
use Rattle.ob_ring.proofs.Appends.{append_more, append_none}
use Rattle.ob_ring.proofs.Lows.{one_of-map-range}
use Rattle.ob_ring.proofs.Visits.{visits_push}
use Rattle.ob_ring.proofs.PlanLaws.{at_same, at_other, at_kept, whole_with, plans_like, plans_then, seals_none}

-- ---- finding

pub record IsFirst (q : ℕ → Bool) (a n j : ℕ) : Type 0 where
  pub on : q j ≡ true
  pub from : a ≤ j
  pub to : j < a + n

pub find_some : (q : ℕ → Bool) (a n j : ℕ) → find q (range_with_len a n) ≡ Some j → IsFirst q a n j
find_some q a zero j e = absurd (cc)
find_some q a (suc n) j e = elim (cases_Bool (q a)) [
  | inl on ↦ (let f : Some a ≡ Some j = rw on at e in let same : a ≡ j = cc in record { on = ap q (sym same) ∙ on; from = omega arith; to = omega arith })
  | inr off ↦ (let f : find q (range_with_len (a + 1) n) ≡ Some j = rw off at e in let r : IsFirst q (a + 1) n j = find_some q (a + 1) n j f in record { on = r.on; from = omega (arith, r.from); to = omega (arith, r.to) })
]

pub find_none : (q : ℕ → Bool) (a n j : ℕ) → find q (range_with_len a n) ≡ None → a ≤ j → j < a + n → q j ≡ true → ⊥
find_none q a zero j e h g on = omega arith
find_none q a (suc n) j e h g on = elim (cases_Bool (q a)) [
  | inl here ↦ (let f : Some a ≡ None = rw here at e in cc)
  | inr off ↦ (let f : find q (range_with_len (a + 1) n) ≡ None = rw off at e in
      elim (cases_eq a j) [
        | inl at ↦ true≢false (sym on ∙ ap q (sym at) ∙ off)
        | inr ne ↦ find_none q (a + 1) n j f (omega arith) (omega arith) on
      ])
]

key_case : (key : ℕ) (o : Option ℕ) → is_key key o ≡ true → o ≡ Some key
key_case key None e = absurd (false≢true e)
key_case key (Some k) e = ap (λ (x : ℕ). Some x) (eqb-true k key e)

key_there : (key : ℕ) (o : Option ℕ) → o ≡ Some key → is_key key o ≡ true
key_there key o e = ap (is_key key) e ∙ eq-eqb key key refl

past_none : (xs : List (Option ℕ)) (j : ℕ) → length xs ≤ j → slice_index_or xs j None ≡ None
past_none [] j h = refl
past_none (x ∷ xs) zero h = absurd (omega arith)
past_none (x ∷ xs) (suc j) h = past_none xs j (omega arith)

pub found_live : (v : Version) (key j : ℕ) → live_index v key ≡ Some j → (j < length v.keys) × (key_at v j ≡ Some key)
found_live v key j e = let f : IsFirst (λ i. is_key key (key_at v i)) 0 (length v.keys) j = find_some (λ i. is_key key (key_at v i)) 0 (length v.keys) j e in
    (omega (arith, f.to), key_case key (key_at v j) f.on)

pub none_live : (v : Version) (key j : ℕ) → live_index v key ≡ None → key_at v j ≢ Some key
none_live v key j e on = elim (cases_lt j (length v.keys)) [
  | inl low ↦ find_none (λ i. is_key key (key_at v i)) 0 (length v.keys) j e (omega arith) (omega arith) (key_there key (key_at v j) on)
  | inr high ↦ (let f : None ≡ Some key = sym (past_none v.keys j high) ∙ on in cc)
]

-- the key of a row is found at the row's spot
pub spot_is : (p : Params) (s : Buckets) (lifted : ℕ → Bool) (r : Rest) (t : FlatTable) (key leaf : ℕ) (found : Option Found) → IsSound p t → IsTableOf p (arrays_in s lifted r) t → leaf_of (t.rows key) 0 ≡ leaf → IsFound p s key leaf found → spot_of (t.rows key) ≡ spot_at found
spot_is p s lifted r t key leaf (Some f) sound is e found = (is.spots_are key f.bucket f.index).1 found.2
spot_is p s lifted r t key leaf None sound is e found = spot_case (spot_of (t.rows key)) refl
  where
    spot_case : (o : Spot) → spot_of (t.rows key) ≡ o → spot_of (t.rows key) ≡ InStash
    spot_case InStash same = same
    spot_case (In u j) same =
        let at : Placed p t key u j = sound.placed key u j same in
        let on : (i : ℕ) × (i < 0 + (p.levels + 1)) × (bucket_of p i (leaf_of (t.rows key) 0) ≡ u) = one_of-map-range (λ level. bucket_of p level (leaf_of (t.rows key) 0)) 0 (p.levels + 1) u at.on_path in
        let here : bucket_of p on.0 leaf ≡ u = ap (λ (x : ℕ). bucket_of p on.0 x) (sym e) ∙ on.2 in
        let low : on.0 < 0 + (p.levels + 1) = on.1 in
        absurd (found on.0 j (omega arith) (ap (λ (w : ℕ). key_at (version_at s.versions w) j) here ∙ (is.spots_are key u j).0 same))

-- ---- taking out

none_both : (b : Bool) → ◌≡◌ {A = Option ℕ} None (cond b None None)
none_both true = refl
none_both false = refl

set_none : (xs : List (Option ℕ)) (j i : ℕ) → slice_index_or (slice_set xs j None) i None ≡ cond (j == i) None (slice_index_or xs i None)
set_none [] j i = none_both (j == i)
set_none (x ∷ xs) zero zero = refl
set_none (x ∷ xs) zero (suc i) = ap (λ (b : Bool). cond b None (slice_index_or xs i None)) (sym (ne_eqb zero (suc i) (λ e. omega arith)))
set_none (x ∷ xs) (suc j) zero = ap (λ (b : Bool). cond b None x) (sym (ne_eqb (suc j) zero (λ e. omega arith)))
set_none (x ∷ xs) (suc j) (suc i) = set_none xs j i ∙ ap (λ (b : Bool). cond b None (slice_index_or xs i None)) (suc_same j i)
  where
    suc_same : (a b : ℕ) → (a == b) ≡ (suc a == suc b)
    suc_same a b = elim (cases_eq a b) [ inl e ↦ eq-eqb a b e ∙ sym (eq-eqb (suc a) (suc b) (ap suc e)) | inr ne ↦ ne_eqb a b ne ∙ sym (ne_eqb (suc a) (suc b) (λ e. ne (omega arith))) ]

pub taken_none : (p : Params) (s : Buckets) → AreWhole p s → IsTakenOut p s s InStash
taken_none p s whole = record { whole = whole; seals = seals_none s; lifted = refl; keys = λ u j. refl; used = λ u j. refl }

pub taken_out : (p : Params) (s : Buckets) (u j : ℕ) (v v' : Version) → AreWhole p s → u < buckets p → v ≡ version_at s.versions u → v' ≡ record v { keys = slice_set v.keys j None } → IsTakenOut p s (with_version s u v') (In u j)
taken_out p s u j v v' whole hu is changed =
    let many : u < length s.versions = omega (arith, whole.many) in
    let slots : HasSlots p (version_at s.versions u) = whole.slots u hu in
    let e : v' ≡ record (version_at s.versions u) { keys = slice_set (version_at s.versions u).keys j None } = changed ∙ (λ i. record (is i) { keys = slice_set (is i).keys j None }) in
    subst (λ (x : Version). IsTakenOut p s (with_version s u x) (In u j)) (sym e)
    (let w' : Version = record (version_at s.versions u) { keys = slice_set (version_at s.versions u).keys j None } in
    record {
      whole = whole_with p s u w' whole hu (record { keys = length-set (version_at s.versions u).keys j None ∙ slots.keys; ranks = slots.ranks; used = slots.used });
      seals = record {
        homes = at_kept (λ x. x.home) s u w' many refl;
        generations = at_kept (λ x. x.generation) s u w' many refl;
        bases = at_kept (λ x. x.base) s u w' many refl;
        ranks = at_kept (λ x. x.ranks) s u w' many refl;
        order = refl;
      };
      lifted = refl;
      keys = λ w i. elim (cases_eq w u) [
        | inl at ↦ at_same (λ x. key_at x i) s u w' many w at ∙ set_none (version_at s.versions u).keys j i
            ∙ (λ k. cond (j == i) None (key_at (version_at s.versions (sym at k)) i)) ∙ sym (ap (λ (b : Bool). cond (b && (j == i)) None (key_at (version_at s.versions w) i)) (eq-eqb u w (sym at)))
        | inr ne ↦ at_other (λ x. key_at x i) s u w' w ne ∙ sym (ap (λ (b : Bool). cond (b && (j == i)) None (key_at (version_at s.versions w) i)) (ne_eqb u w (λ e. ne (sym e))))
      ];
      used = λ w i. at_kept (λ x. used_at x i) s u w' many refl w;
    })

-- ---- the visits of a path

pub visits_picked_push : (p : Params) (t : FlatTable) (ask : Option ℕ) (own : Spot) (us : List ℕ) (u : ℕ) → visits_picked p t ask own (us ++ u ∷ []) ≡ visits_picked p t ask own us ++ visit_picked p (visits p t own us) ask own u
visits_picked_push p t ask own [] u = append_none (visit_picked p t ask own u)
visits_picked_push p t ask own (v ∷ us) u = ap (λ (qs : List Picked). visit_picked p t ask own v ++ qs) (visits_picked_push p (visit p t own v) ask own us u) ∙ sym
    (append_more (visit_picked p t ask own v) (visits_picked p (visit p t own v) ask own us) (visit_picked p (visits p (visit p t own v) own us) ask own u))

abbrev pub path_to : Params → ℕ → ℕ → List ℕ
path_to p leaf n = map (λ level. bucket_of p level leaf) (below n)

pub path_more : (p : Params) (leaf n : ℕ) → path_to p leaf (n + 1) ≡ path_to p leaf n ++ bucket_of p n leaf ∷ []
path_more p leaf n = map-range_with_len_more (λ level. bucket_of p level leaf) 0 n n (omega arith)

pub visits_more : (p : Params) (old mid new : Buckets) (before middle now : Planned) (ask : Option ℕ) (own : Spot) (leaf n : ℕ) → Plans p old mid before middle (λ t. visits_picked p t ask own (path_to p leaf n)) (λ t. visits p t own (path_to p leaf n)) → Plans
    p mid new middle now (λ t. visit_picked p t ask own (bucket_of p n leaf)) (λ t. visit p t own (bucket_of p n leaf)) →
    Plans p old new before now (λ t. visits_picked p t ask own (path_to p leaf (n + 1))) (λ t. visits p t own (path_to p leaf (n + 1)))
visits_more p old mid new before middle now ask own leaf n a b =
    plans_like p old new before now (λ t. visits_picked p t ask own (path_to p leaf n) ++ visit_picked p (visits p t own (path_to p leaf n)) ask own (bucket_of p n leaf)) (λ t. visits_picked p t ask own (path_to p leaf (n + 1)))
    (λ t. visit p (visits p t own (path_to p leaf n)) own (bucket_of p n leaf)) (λ t. visits p t own (path_to p leaf (n + 1)))
    (plans_then p old mid new before middle now (λ t. visits_picked p t ask own (path_to p leaf n)) (λ t. visit_picked p t ask own (bucket_of p n leaf)) (λ t. visits p t own (path_to p leaf n)) (λ t. visit p t own (bucket_of p n leaf)) a b)
    (λ r t is. (
      sym (ap (visits_picked p t ask own) (path_more p leaf n) ∙ visits_picked_push p t ask own (path_to p leaf n) (bucket_of p n leaf)),
      sym (ap (visits p t own) (path_more p leaf n) ∙ visits_push p t own (path_to p leaf n) (bucket_of p n leaf)),
    ))

-- ---- room

pub product_more : (n m : ℕ) → (n + 1) * m ≡ n * m + m
product_more n m = omega arith

pub product_le : (n k m : ℕ) → n ≤ k → n * m ≤ k * m
product_le n k m h = mul-le-mul_right m h

pub grows_then : (a b c : ℕ) (old mid new : Planned) → a + b ≤ c → Grows a old mid → Grows b mid new → Grows c old new
grows_then a b c old mid new h x y = record {
  few = omega (arith, x.few, y.few);
  room = y.room ∙ x.room;
  places = y.places ∙ x.places;
  place_room = y.place_room ∙ x.place_room;
}

pub grows_none : (s : Planned) → Grows 0 s s
grows_none s = record { few = omega arith; room = refl; places = refl; place_room = refl }
