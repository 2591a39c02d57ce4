-- What a place shows is what the public schedule says, index by index.
use Rattle.std.specs.Prelude.{◌≡◌, ◌≢◌, ℕ, ◌+◌, ◌<◌, ◌≤◌, ◌==◌, nat_le, Bool, true, false, cond, not, ◌&&◌, ◌||◌, List, [], ◌∷◌, ◌++◌, map, length, unwrap_or}
use Rattle.std.specs.declared.option.Option.TheVariants.{None, Some}
use Rattle.std.specs.List.{range_with_len, flat_map, find}
use Rattle.std.proofs.Common.{arith, append_assoc, refl, sym, ap, ◌∙◌, inl, inr}
use Rattle.std.proofs.lemmas.Bool.{true≢false, cases_Bool, eqb-true, eq-eqb, ne_eqb, lt-ltb, le-ltb, le-leb, lt-leb, cases_lt, cases_eq, or_left, or_right}
use Rattle.ob_base.specs.declared.params.Params.{Params}
use Rattle.ob_schedule.specs.Paths.{is_one_of}
use Rattle.ob_ring.specs.FlatTable.{FlatTable, Spot, InStash, In, Shown, spot_of, index_shown, mark_index, lift, reads, lift_order, shown_numbered, lift_shown, visit_shown, visit, visits_shown, visits}
use Rattle.ob_schedule.specs.Holes.{Hole, lift_holes, visit_holes}
use Rattle.ob_ring.proofs.Ranges.{count_by-range_mark, count_by-range_agree, dummy_left}
use Rattle.ob_ring.proofs.Members.{IsDistinct}
use Rattle.ob_ring.specs.Sound.{IsSound}
use Rattle.ob_ring.proofs.Sounds.{sound_mark, sound_lift, out_of-In, spot-leave}
use Rattle.ob_ring.proofs.LiftOrder.{length-lift_order}
pub use Rattle.ob_ring.specs.Sound.{IsCounted, hole_of}

abbrev pub bump : ℕ → (ℕ → ℕ) → ℕ → ℕ
bump u count v = count v + cond (v == u) 1 0

-- no key lies at the place's own spot any more
abbrev pub IsVacant : FlatTable → Spot → Type 0
IsVacant t own = (k u j : ℕ) → own ≡ In u j → spot_of (t.rows k) ≢ In u j

pub record IsNew (p : Params) (t : FlatTable) (u j : ℕ) : Type 0 where
  pub within : j < p.real + p.dummies
  pub unread : t.used u j ≡ false
  pub vacant : (k : ℕ) → spot_of (t.rows k) ≢ In u j

new_dummy : (p : Params) (t : FlatTable) (u : ℕ) → IsSound p t → reads p t u < p.dummies → IsNew p t u (unwrap_or (find (λ j. not (t.used u j)) (range_with_len p.real p.dummies)) 0)
new_dummy p t u s few =
    let d : (j : ℕ) × (find (λ i. not (t.used u i)) (range_with_len p.real p.dummies) ≡ Some j) × (p.real ≤ j) × (j < p.real + p.dummies) × (t.used u j ≡ false) = dummy_left (t.used u) p.real p.dummies few in
    rw d.1 (record { within = d.3; unread = d.4; vacant = λ k e. (let h : d.0 < p.real = (s.placed k u d.0 e).real in let g : p.real ≤ d.0 = d.2 in omega arith) })

own_case : (p : Params) (t : FlatTable) (v i u : ℕ) (b : Bool) (o : ℕ) → (v == u) ≡ b → ((b ≡ true) → IsNew p t u i) → IsNew p t u o → IsNew p t u (unwrap_or (cond b (Some i) None) o)
own_case p t v i u true o is h n = h refl
own_case p t v i u false o is h n = n

-- the index that a bucket shows is new
pub index_shown_new : (p : Params) (t : FlatTable) (own : Spot) (u : ℕ) → IsSound p t → reads p t u < p.dummies → IsVacant t own → ((j : ℕ) → own ≡ In u j → (j < p.real) × (t.used u j ≡ false)) → IsNew p t u (index_shown p t own u)
index_shown_new p t InStash u s few gone free = new_dummy p t u s few
index_shown_new p t (In v i) u s few gone free =
    own_case p t v i u (v == u) (unwrap_or (find (λ j. not (t.used u j)) (range_with_len p.real p.dummies)) 0) refl
    (λ on. (let same : v ≡ u = eqb-true v u on in
    let at : In v i ≡ In u i = ap (λ w. In w i) same in
    record { within = omega (arith, (free i at).0); unread = (free i at).1; vacant = λ k. gone k u i at }))
    (new_dummy p t u s few)

pub reads_mark_same : (p : Params) (t : FlatTable) (u j : ℕ) → j < p.real + p.dummies → t.used u j ≡ false → reads p (mark_index t u j) u ≡ reads p t u + 1
reads_mark_same p t u j h off =
    count_by-range_agree (λ i. ((u == u) && (i == j)) || t.used u i) (λ i. (i == j) || t.used u i) (p.real + p.dummies) (λ i k. rw (eq-eqb u u refl) refl)
    ∙ count_by-range_mark (t.used u) (p.real + p.dummies) j h off

pub reads_mark_other : (p : Params) (t : FlatTable) (u j v : ℕ) → (v == u) ≡ false → reads p (mark_index t u j) v ≡ reads p t v
reads_mark_other p t u j v off = count_by-range_agree (λ i. ((v == u) && (i == j)) || t.used v i) (t.used v) (p.real + p.dummies) (λ i k. rw off refl)

pub holes-numbered : (u n : ℕ) (js : List ℕ) → map hole_of (shown_numbered u n js) ≡ map (λ i. record { bucket = u; number = i }) (range_with_len n (length js))
holes-numbered u n [] = refl
holes-numbered u n (j ∷ js) = ap (λ (hs : List Hole). (record { bucket = u; number = n }) ∷ hs) (holes-numbered u (n + 1) js)

pub record VisitLaw (p : Params) (t : FlatTable) (own : Spot) (u : ℕ) (count : ℕ → ℕ) : Type 0 where
  pub holes : map hole_of (visit_shown p t own u) ≡ visit_holes p u (count u)
  pub counted : IsCounted p (visit p t own u) (bump u count)
  pub sound : IsSound p (visit p t own u)
  pub others : (v j : ℕ) → (v == u) ≡ false → (visit p t own u).used v j ≡ t.used v j
  pub gone : IsVacant (visit p t own u) own

bump_same : (u : ℕ) (count : ℕ → ℕ) (v : ℕ) → (v == u) ≡ true → bump u count v ≡ count v + 1
bump_same u count v on = rw on refl

bump_other : (u : ℕ) (count : ℕ → ℕ) (v : ℕ) → (v == u) ≡ false → bump u count v ≡ count v
bump_other u count v off = rw off (omega arith)

visit_closed : (p : Params) (t : FlatTable) (own : Spot) (u : ℕ) (count : ℕ → ℕ) → IsSound p t → IsCounted p t count → IsVacant t own → p.dummies ≤ count u → VisitLaw p t own u count
visit_closed p t own u count s c gone full =
    let up : t.lifted u ≡ true = c.lifted_is u ∙ le-leb p.dummies (count u) full in
    record {
      holes = rw (up, le-ltb (count u) p.dummies full) refl;
      counted = rw up (record {
        lifted_is = λ v. elim (cases_Bool (v == u)) [
          | inl on ↦ (let same : v ≡ u = eqb-true v u on in rw same (up ∙ sym (le-leb p.dummies (bump u count u) (omega arith))))
          | inr off ↦ c.lifted_is v ∙ ap (nat_le p.dummies) (sym (bump_other u count v off))
        ];
        reads_is = λ v few. elim (cases_Bool (v == u)) [
          | inl on ↦ (let same : v ≡ u = eqb-true v u on in absurd (let e : bump u count v ≡ count v + 1 = bump_same u count v on in let f : count v ≡ count u = ap count same in omega arith))
          | inr off ↦ (let e : bump u count v ≡ count v = bump_other u count v off in c.reads_is v (omega arith) ∙ sym e)
        ];
      });
      sound = rw up s;
      others = λ v j off. rw up refl;
      gone = rw up gone;
    }

gone_lift : (t : FlatTable) (own : Spot) (v : ℕ) → IsVacant t own → IsVacant (lift t v) own
gone_lift t own v gone k u j e f = gone k u j e (out_of-In v (spot_of (t.rows k)) u j (sym (spot-leave v (t.rows k)) ∙ f)).0

counted_mark : (p : Params) (t : FlatTable) (u j : ℕ) (count : ℕ → ℕ) → IsCounted p t count → j < p.real + p.dummies → t.used u j ≡ false → count u < p.dummies → (v : ℕ) → bump u count v < p.dummies → reads p (mark_index t u j) v ≡ bump u count v
counted_mark p t u j count c h off few v low = elim (cases_Bool (v == u)) [
  | inl on ↦ (let same : v ≡ u = eqb-true v u on in
      let e : reads p (mark_index t u j) u ≡ bump u count u = reads_mark_same p t u j h off ∙ (let r : reads p t u ≡ count u = c.reads_is u few in let b : bump u count u ≡ count u + 1 = bump_same u count u (eq-eqb u u refl) in omega arith) in
      rw same e)
  | inr out ↦ (let b : bump u count v ≡ count v = bump_other u count v out in reads_mark_other p t u j v out ∙ c.reads_is v (omega arith) ∙ sym b)
]

others_mark : (t : FlatTable) (u j v i : ℕ) → (v == u) ≡ false → (mark_index t u j).used v i ≡ t.used v i
others_mark t u j v i off = rw off refl

visit_open : (p : Params) (t : FlatTable) (own : Spot) (u : ℕ) (count : ℕ → ℕ) → IsSound p t → IsCounted p t count → IsVacant t own → ((j : ℕ) → own ≡ In u j → (j < p.real) × (t.used u j ≡ false)) → count u + 1 < p.dummies → VisitLaw p t own u count
visit_open p t own u count s c gone free few =
    let down : t.lifted u ≡ false = c.lifted_is u ∙ lt-leb p.dummies (count u) (omega arith) in
    let many : reads p t u ≡ count u = c.reads_is u (omega arith) in
    let j : ℕ = index_shown p t own u in
    let new : IsNew p t u j = index_shown_new p t own u s (omega arith) gone free in
    let mid : (count u + 1 == p.dummies) ≡ false = ne_eqb (count u + 1) p.dummies (λ e. omega arith) in
    record {
      holes = rw (down, many, mid, lt-ltb (count u) p.dummies (omega arith)) refl;
      counted = rw (down, many, mid) (record {
        lifted_is = λ v. elim (cases_Bool (v == u)) [
          | inl on ↦ (let same : v ≡ u = eqb-true v u on in let b : bump u count u ≡ count u + 1 = bump_same u count u (eq-eqb u u refl) in rw same (down ∙ sym (lt-leb p.dummies (bump u count u) (omega arith))))
          | inr off ↦ c.lifted_is v ∙ ap (nat_le p.dummies) (sym (bump_other u count v off))
        ];
        reads_is = counted_mark p t u j count c new.within new.unread (omega arith);
      });
      sound = rw (down, many, mid) (sound_mark p t u j new.vacant s);
      others = λ v i off. rw (down, many, mid) (others_mark t u j v i off);
      gone = rw (down, many, mid) gone;
    }

visit_last : (p : Params) (t : FlatTable) (own : Spot) (u : ℕ) (count : ℕ → ℕ) → IsSound p t → IsCounted p t count → IsVacant t own → ((j : ℕ) → own ≡ In u j → (j < p.real) × (t.used u j ≡ false)) → count u + 1 ≡ p.dummies → VisitLaw p t own u count
visit_last p t own u count s c gone free last =
    let down : t.lifted u ≡ false = c.lifted_is u ∙ lt-leb p.dummies (count u) (omega arith) in
    let many : reads p t u ≡ count u = c.reads_is u (omega arith) in
    let j : ℕ = index_shown p t own u in
    let new : IsNew p t u j = index_shown_new p t own u s (omega arith) gone free in
    let mid : (count u + 1 == p.dummies) ≡ true = eq-eqb (count u + 1) p.dummies last in
    let marked : IsSound p (mark_index t u j) = sound_mark p t u j new.vacant s in
    let full : reads p (mark_index t u j) u ≡ count u + 1 = reads_mark_same p t u j new.within new.unread ∙ (omega arith) in
    let lifts : map hole_of (lift_shown p (mark_index t u j) u) ≡ lift_holes p u (count u + 1) =
    holes-numbered u (reads p (mark_index t u j) u) (lift_order p (mark_index t u j) u)
    ∙ (λ i. map (λ n. record { bucket = u; number = n }) (range_with_len (full i) (length-lift_order p (mark_index t u j) u marked (omega arith) i))) in
    record {
      holes = rw (down, many, mid, lt-ltb (count u) p.dummies (omega arith)) (ap (λ (hs : List Hole). (record { bucket = u; number = count u }) ∷ hs) lifts);
      counted = rw (down, many, mid) (record {
        lifted_is = λ v. elim (cases_Bool (v == u)) [
          | inl on ↦ (let same : v ≡ u = eqb-true v u on in let b : bump u count u ≡ count u + 1 = bump_same u count u (eq-eqb u u refl) in rw same (or_left (u == u) (t.lifted u) (eq-eqb u u refl) ∙ sym (le-leb p.dummies (bump u count u) (omega arith))))
          | inr off ↦ ap (λ b. b || t.lifted v) off ∙ c.lifted_is v ∙ ap (nat_le p.dummies) (sym (bump_other u count v off))
        ];
        reads_is = counted_mark p t u j count c new.within new.unread (omega arith);
      });
      sound = rw (down, many, mid) (sound_lift p (mark_index t u j) u marked);
      others = λ v i off. rw (down, many, mid) (others_mark t u j v i off);
      gone = rw (down, many, mid) (gone_lift (mark_index t u j) own u gone);
    }

pub visit_law : (p : Params) (t : FlatTable) (own : Spot) (u : ℕ) (count : ℕ → ℕ) → IsSound p t → IsCounted p t count → IsVacant t own → ((j : ℕ) → own ≡ In u j → (j < p.real) × (t.used u j ≡ false)) → VisitLaw p t own u count
visit_law p t own u count s c gone free = elim (cases_lt (count u) p.dummies) [
  | inl low ↦ elim (cases_eq (count u + 1) p.dummies) [
    | inl last ↦ visit_last p t own u count s c gone free last
    | inr more ↦ visit_open p t own u count s c gone free (omega arith)
  ]
  | inr full ↦ visit_closed p t own u count s c gone full
]

-- ---- a place

abbrev pub bumps : List ℕ → (ℕ → ℕ) → ℕ → ℕ
bumps us count v = count v + cond (is_one_of us v) 1 0

pub counted_like : (p : Params) (t : FlatTable) (c d : ℕ → ℕ) → ((v : ℕ) → c v ≡ d v) → IsCounted p t c → IsCounted p t d
counted_like p t c d same h = record {
  lifted_is = λ u. h.lifted_is u ∙ ap (nat_le p.dummies) (same u);
  reads_is = λ u few. h.reads_is u (omega (arith, same u)) ∙ same u;
}

bump_twice : (u : ℕ) (us : List ℕ) (count : ℕ → ℕ) → is_one_of us u ≡ false → (v : ℕ) → bumps us (bump u count) v ≡ bumps (u ∷ us) count v
bump_twice u us count off v = elim (cases_eq v u) [
  | inl same ↦ rw (same, off, eq-eqb u u refl) (omega arith)
  | inr ne ↦ rw (ne_eqb v u ne, ne_eqb u v (λ e. ne (sym e))) (omega arith)
]

holes_agree : (p : Params) (us : List ℕ) (c d : ℕ → ℕ) → ((v : ℕ) → is_one_of us v ≡ true → c v ≡ d v) → flat_map (λ u. visit_holes p u (c u)) us ≡ flat_map (λ u. visit_holes p u (d u)) us
holes_agree p [] c d h = refl
holes_agree p (u ∷ us) c d h = λ i. visit_holes p u (h u (or_left (u == u) (is_one_of us u) (eq-eqb u u refl)) i) ++ holes_agree p us c d (λ v on. h v (or_right (u == v) (is_one_of us v) on)) i

pub map-append : (f : Shown → Hole) (xs ys : List Shown) → map f (xs ++ ys) ≡ map f xs ++ map f ys
map-append f [] ys = refl
map-append f (x ∷ xs) ys = ap (λ (hs : List Hole). f x ∷ hs) (map-append f xs ys)

pub record VisitsLaw (p : Params) (t : FlatTable) (own : Spot) (us : List ℕ) (count : ℕ → ℕ) : Type 0 where
  pub holes : map hole_of (visits_shown p t own us) ≡ flat_map (λ u. visit_holes p u (count u)) us
  pub counted : IsCounted p (visits p t own us) (bumps us count)
  pub sound : IsSound p (visits p t own us)

pub off_itself : (us : List ℕ) (u v : ℕ) → is_one_of us u ≡ false → is_one_of us v ≡ true → (v == u) ≡ false
off_itself us u v off on = ne_eqb v u (λ e. true≢false (sym on ∙ ap (is_one_of us) e ∙ off))

pub visits_law : (p : Params) (t : FlatTable) (own : Spot) (us : List ℕ) (count : ℕ → ℕ) → IsDistinct us → IsSound p t → IsCounted p t count → IsVacant t own → ((u j : ℕ) → is_one_of us u ≡ true → own ≡ In u j → (j < p.real) × (t.used u j ≡ false)) → VisitsLaw p t own us count
visits_law p t own [] count d s c gone free = record {
  holes = refl;
  counted = counted_like p t count (bumps [] count) (λ v. omega arith) c;
  sound = s;
}
visits_law p t own (u ∷ us) count d s c gone free =
    let one : VisitLaw p t own u count = visit_law p t own u count s c gone (λ j. free u j (or_left (u == u) (is_one_of us u) (eq-eqb u u refl))) in
    let rest : VisitsLaw p (visit p t own u) own us (bump u count) = visits_law p (visit p t own u) own us (bump u count) d.1 one.sound one.counted one.gone
    (λ v j on at. (let f : (j < p.real) × (t.used v j ≡ false) = free v j (or_right (u == v) (is_one_of us v) on) at in
    (f.0, one.others v j (off_itself us u v d.0 on) ∙ f.1))) in
    record {
      holes = map-append hole_of (visit_shown p t own u) (visits_shown p (visit p t own u) own us)
          ∙ (λ i. one.holes i ++ rest.holes i)
          ∙ ap (λ (hs : List Hole). visit_holes p u (count u) ++ hs) (holes_agree p us (bump u count) count (λ v on. bump_other u count v (off_itself us u v d.0 on)));
      counted = counted_like p (visits p t own (u ∷ us)) (bumps us (bump u count)) (bumps (u ∷ us) count) (bump_twice u us count d.0) rest.counted;
      sound = rest.sound;
    }

append_nothing : (xs : List Shown) → xs ++ [] ≡ xs
append_nothing [] = refl
append_nothing (x ∷ xs) = ap (λ (ys : List Shown). x ∷ ys) (append_nothing xs)

-- ---- one bucket more, as a loop over the levels goes
pub visits_push : (p : Params) (t : FlatTable) (own : Spot) (us : List ℕ) (u : ℕ) → visits p t own (us ++ u ∷ []) ≡ visit p (visits p t own us) own u
visits_push p t own [] u = refl
visits_push p t own (v ∷ us) u = visits_push p (visit p t own v) own us u

pub visits_shown_push : (p : Params) (t : FlatTable) (own : Spot) (us : List ℕ) (u : ℕ) → visits_shown p t own (us ++ u ∷ []) ≡ visits_shown p t own us ++ visit_shown p (visits p t own us) own u
visits_shown_push p t own [] u = append_nothing (visit_shown p t own u)
visits_shown_push p t own (v ∷ us) u = ap (λ (ss : List Shown). visit_shown p t own v ++ ss) (visits_shown_push p (visit p t own v) own us u) ∙ sym (append_assoc (visit_shown p t own v) (visits_shown p (visit p t own v) own us) (visit_shown p (visits p t own (v ∷ us)) own u))
