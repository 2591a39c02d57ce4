-- What a batch and the final lifts show wasn't shown before.
use Rattle.std.specs.Prelude.{◌≡◌, ◌≢◌, ℕ, ◌+◌, ◌<◌, ◌==◌, Bool, true, false, cond, ◌&&◌, ◌||◌, List, [], ◌∷◌, ◌++◌, Option}
use Rattle.std.proofs.Common.{arith, refl, sym, ap, ◌∙◌, inl, inr}
use Rattle.std.proofs.lemmas.Bool.{true≢false, eq-eqb, ne_eqb, cases_eq, or_left, or_right, or_parts, leb-false}
use Rattle.std.proofs.lemmas.Bool.Decides.{nat_tests}
use Rattle.ob_base.specs.declared.params.Params.{Params}
use Rattle.ob_base.specs.Tree.{path}
use Rattle.ob_schedule.specs.Paths.{is_one_of}
use Rattle.ob_ring.specs.FlatTable.{FlatTable, Spot, In, Shown, spot_of, asked_row, fetch, leaf_shown, place_shown, after_place, batch_shown, after_batch, reads, mark_index, lift, lift_order, lift_shown, shown_numbered, visit_shown, visit, visits_shown, visits, final_shown, after_final, index_shown}
use Rattle.ob_ring.specs.News.{Seen, with_shown, with_all, AreNew, Marks}
use Rattle.ob_ring.proofs.Members.{IsDistinct}
use Rattle.ob_ring.specs.Sound.{IsSound}
use Rattle.ob_ring.proofs.Sounds.{sound_mark, sound_fetch, vacant_fetch, sound_lift}
use Rattle.ob_ring.proofs.LiftOrder.{distinct-lift_order, unread_lift_order}
use Rattle.ob_ring.specs.Sound.{IsCounted}
use Rattle.ob_ring.proofs.Visits.{IsVacant, IsNew, index_shown_new, reads_mark_same, reads_mark_other, VisitLaw, visit_law, bump}
use Rattle.ob_ring.proofs.Batches.{own_is_free, PlaceLaw, place_law, passed}
use Rattle.ob_ring.proofs.Paths.{distinct_path}

pub new-append : (p : Params) (seen : Seen) (xs ys : List Shown) → AreNew p seen xs → AreNew p (with_all seen xs) ys → AreNew p seen (xs ++ ys)
new-append p seen [] ys a b = b
new-append p seen (x ∷ xs) ys a b = (a.0, a.1, a.2, new-append p (with_shown seen x) xs ys a.3 b)

pub with_all-append : (seen : Seen) (xs ys : List Shown) → with_all seen (xs ++ ys) ≡ with_all (with_all seen xs) ys
with_all-append seen [] ys = refl
with_all-append seen (x ∷ xs) ys = with_all-append (with_shown seen x) xs ys

still_unseen : (u j i : ℕ) (b : Bool) → j ≢ i → b ≡ false → (((u == u) && (i == j)) || b) ≡ false
still_unseen u j i b h e = grind (arith, nat_tests)

one_further : (u n m : ℕ) → n ≡ m → n + 1 ≡ m + cond (u == u) 1 0
one_further u n m e = rw (eq-eqb u u refl) (omega arith)

-- different unread indexes of one bucket
pub new_numbered : (p : Params) (seen : Seen) (u n : ℕ) (js : List ℕ) → n ≡ seen.next u → IsDistinct js → ((j : ℕ) → is_one_of js j ≡ true → (j < p.real + p.dummies) × (seen.shown u j ≡ false)) → AreNew p seen (shown_numbered u n js)
new_numbered p seen u n [] at d h = tt
new_numbered p seen u n (j ∷ js) at d h =
    let here : (j < p.real + p.dummies) × (seen.shown u j ≡ false) = h j (or_left (j == j) (is_one_of js j) (eq-eqb j j refl)) in (
      here.0,
      here.1,
      at,
      new_numbered p (with_shown seen (record { bucket = u; number = n; index = j })) u (n + 1) js (one_further u n (seen.next u) at) d.1
          (λ i on. (let there : (i < p.real + p.dummies) × (seen.shown u i ≡ false) = h i (or_right (j == i) (is_one_of js i) on) in
          (there.0, still_unseen u j i (seen.shown u i) (λ e. true≢false (sym on ∙ ap (is_one_of js) (sym e) ∙ d.0)) there.1))),
    )

-- what is seen of one bucket changes nothing elsewhere
with_numbered : (seen : Seen) (u n : ℕ) (js : List ℕ) (v j : ℕ) → (v == u) ≡ false → (with_all seen (shown_numbered u n js)).shown v j ≡ seen.shown v j
with_numbered seen u n [] v j off = refl
with_numbered seen u n (i ∷ js) v j off = with_numbered (with_shown seen (record { bucket = u; number = n; index = i })) u (n + 1) js v j off ∙ ap (λ (b : Bool). (b && (j == i)) || seen.shown v j) off

next_elsewhere : (seen : Seen) (u v : ℕ) → (v == u) ≡ false → seen.next v + cond (v == u) 1 0 ≡ seen.next v
next_elsewhere seen u v off = rw off (omega arith)

next_numbered : (seen : Seen) (u n : ℕ) (js : List ℕ) (v : ℕ) → (v == u) ≡ false → (with_all seen (shown_numbered u n js)).next v ≡ seen.next v
next_numbered seen u n [] v off = refl
next_numbered seen u n (i ∷ js) v off = next_numbered (with_shown seen (record { bucket = u; number = n; index = i })) u (n + 1) js v off ∙ next_elsewhere seen u v off

pub record NewLaw (p : Params) (t' : FlatTable) (seen : Seen) (shown : List Shown) : Type 0 where
  pub new : AreNew p seen shown
  pub marks : Marks p t' (with_all seen shown)

lift_new : (p : Params) (t : FlatTable) (u : ℕ) (seen : Seen) → IsSound p t → seen.next u ≡ reads p t u → ((j : ℕ) → seen.shown u j ≡ t.used u j) → ((v j : ℕ) → (v == u) ≡ false → t.lifted v ≡ false → seen.shown v j ≡ t.used v j) →
    ((v : ℕ) → (v == u) ≡ false → t.lifted v ≡ false → seen.next v ≡ reads p t v) → NewLaw p (lift t u) seen (lift_shown p t u)
lift_new p t u seen s at here m n = record {
  new = new_numbered p seen u (reads p t u) (lift_order p t u) (sym at) (distinct-lift_order p t u)
      (λ j on. (let h : (j < p.real + p.dummies) × (t.used u j ≡ false) = unread_lift_order p t u j s on in (h.0, here j ∙ h.1)));
  marks = record {
    shown_is = λ v j down. (let parts : ((v == u) ≡ false) × (t.lifted v ≡ false) = or_parts (v == u) (t.lifted v) down in
        with_numbered seen u (reads p t u) (lift_order p t u) v j parts.0 ∙ m v j parts.0 parts.1);
    next_is = λ v down. (let parts : ((v == u) ≡ false) × (t.lifted v ≡ false) = or_parts (v == u) (t.lifted v) down in
        next_numbered seen u (reads p t u) (lift_order p t u) v parts.0 ∙ n v parts.0 parts.1);
  };
}

next_mark : (p : Params) (t : FlatTable) (u j n v : ℕ) → j < p.real + p.dummies → t.used u j ≡ false → n ≡ reads p t v → n + cond (v == u) 1 0 ≡ reads p (mark_index t u j) v
next_mark p t u j n v h off at = elim (cases_eq v u) [
  | inl same ↦ (let e : n ≡ reads p t u = at ∙ ap (reads p t) same in
      let one : n + cond (v == u) 1 0 ≡ n + 1 = ap (λ (b : Bool). n + cond b 1 0) (eq-eqb v u same) in
      let more : reads p (mark_index t u j) u ≡ reads p t u + 1 = reads_mark_same p t u j h off in
      let sum : n + 1 ≡ reads p (mark_index t u j) u = ap (λ (m : ℕ). m + 1) e ∙ sym more in
      one ∙ sum ∙ ap (reads p (mark_index t u j)) (sym same))
  | inr ne ↦ (let e : (v == u) ≡ false = ne_eqb v u ne in
      let none : n + cond (v == u) 1 0 ≡ n + 0 = ap (λ (b : Bool). n + cond b 1 0) e in
      let z : n + 0 ≡ n = omega arith in
      none ∙ z ∙ at ∙ sym (reads_mark_other p t u j v e))
]

visit_new : (p : Params) (t : FlatTable) (own : Spot) (u : ℕ) (count : ℕ → ℕ) (seen : Seen) → IsSound p t → IsCounted p t count → IsVacant t own → ((j : ℕ) → own ≡ In u j → (j < p.real) × (t.used u j ≡ false)) → Marks p t seen → (b c : Bool) → t.lifted u ≡ b →
    (reads p t u + 1 == p.dummies) ≡ c → NewLaw p (visit p t own u) seen (visit_shown p t own u)
visit_new p t own u count seen s k gone free m true c is last = record { new = rw is tt; marks = rw is m }
visit_new p t own u count seen s k gone free m false false is last =
    let low : count u < p.dummies = leb-false p.dummies (count u) (sym (k.lifted_is u) ∙ is) in
    let new : IsNew p t u (index_shown p t own u) = index_shown_new p t own u s (omega (arith, k.reads_is u low)) gone free in
    record {
      new = rw (is, last) (new.within, m.shown_is u (index_shown p t own u) is ∙ new.unread, sym (m.next_is u is), tt);
      marks = rw (is, last) (record {
        shown_is = λ v j down. ap (λ (b : Bool). ((v == u) && (j == index_shown p t own u)) || b) (m.shown_is v j down);
        next_is = λ v down. next_mark p t u (index_shown p t own u) (seen.next v) v new.within new.unread (m.next_is v down);
      });
    }
visit_new p t own u count seen s k gone free m false true is last =
    let low : count u < p.dummies = leb-false p.dummies (count u) (sym (k.lifted_is u) ∙ is) in
    let j : ℕ = index_shown p t own u in
    let new : IsNew p t u j = index_shown_new p t own u s (omega (arith, k.reads_is u low)) gone free in
    let seen1 : Seen = with_shown seen (record { bucket = u; number = reads p t u; index = j }) in
    let l : NewLaw p (lift (mark_index t u j) u) seen1 (lift_shown p (mark_index t u j) u) = lift_new p (mark_index t u j) u seen1 (sound_mark p t u j new.vacant s)
    (next_mark p t u j (seen.next u) u new.within new.unread (m.next_is u is))
    (λ i. ap (λ (b : Bool). ((u == u) && (i == j)) || b) (m.shown_is u i is))
    (λ v i off down. ap (λ (b : Bool). ((v == u) && (i == j)) || b) (m.shown_is v i down))
    (λ v off down. next_mark p t u j (seen.next v) v new.within new.unread (m.next_is v down)) in
    record {
      new = rw (is, last) (new.within, m.shown_is u j is ∙ new.unread, sym (m.next_is u is), l.new);
      marks = rw (is, last) l.marks;
    }

visits_new : (p : Params) (t : FlatTable) (own : Spot) (us : List ℕ) (count : ℕ → ℕ) (seen : Seen) → IsDistinct us → IsSound p t → IsCounted p t count → IsVacant t own → ((u j : ℕ) → is_one_of us u ≡ true → own ≡ In u j → (j < p.real) × (t.used u j ≡ false)) →
    Marks p t seen → NewLaw p (visits p t own us) seen (visits_shown p t own us)
visits_new p t own [] count seen d s c gone free m = record { new = tt; marks = m }
visits_new p t own (u ∷ us) count seen d s c gone free m =
    let mine : (j : ℕ) → own ≡ In u j → (j < p.real) × (t.used u j ≡ false) = λ j. free u j (or_left (u == u) (is_one_of us u) (eq-eqb u u refl)) in
    let one : VisitLaw p t own u count = visit_law p t own u count s c gone mine in
    let first : NewLaw p (visit p t own u) seen (visit_shown p t own u) = visit_new p t own u count seen s c gone mine m (t.lifted u) (reads p t u + 1 == p.dummies) refl refl in
    let rest : NewLaw p (visits p (visit p t own u) own us) (with_all seen (visit_shown p t own u)) (visits_shown p (visit p t own u) own us) =
    visits_new p (visit p t own u) own us (bump u count) (with_all seen (visit_shown p t own u)) d.1 one.sound one.counted one.gone
    (λ v j on at. (let f : (j < p.real) × (t.used v j ≡ false) = free v j (or_right (u == v) (is_one_of us v) on) at in
    (f.0, one.others v j (ne_eqb v u (λ e. true≢false (sym on ∙ ap (is_one_of us) e ∙ d.0))) ∙ f.1))) first.marks in
    record {
      new = new-append p seen (visit_shown p t own u) (visits_shown p (visit p t own u) own us) first.new rest.new;
      marks = rw with_all-append rest.marks;
    }

place_new : (p : Params) (t : FlatTable) (ask : Option ℕ) (leaf : ℕ) (count : ℕ → ℕ) (seen : Seen) → IsSound p t → IsCounted p t count → Marks p t seen → NewLaw p (after_place p t ask leaf) seen (place_shown p t ask leaf)
place_new p t ask leaf count seen s c m =
    visits_new p (fetch t ask leaf) (spot_of (asked_row t ask)) (path p (leaf_shown t ask leaf)) count seen (distinct_path p (leaf_shown t ask leaf))
    (sound_fetch p t ask leaf s) (record { lifted_is = c.lifted_is; reads_is = c.reads_is }) (λ k u j. vacant_fetch p t ask leaf s k u j)
    (λ u j on. own_is_free p t ask s u j) (record { shown_is = m.shown_is; next_is = m.next_is })

pub batch_new : (p : Params) (t : FlatTable) (places : List (Option ℕ × ℕ)) (count : ℕ → ℕ) (seen : Seen) → IsSound p t → IsCounted p t count → Marks p t seen → NewLaw p (after_batch p t places) seen (batch_shown p t places)
batch_new p t [] count seen s c m = record { new = tt; marks = m }
batch_new p t (a ∷ rest) count seen s c m =
    let one : PlaceLaw p t a.0 a.1 count = place_law p t a.0 a.1 count s c in
    let first : NewLaw p (after_place p t a.0 a.1) seen (place_shown p t a.0 a.1) = place_new p t a.0 a.1 count seen s c m in
    let more : NewLaw p (after_batch p (after_place p t a.0 a.1) rest) (with_all seen (place_shown p t a.0 a.1)) (batch_shown p (after_place p t a.0 a.1) rest) =
    batch_new p (after_place p t a.0 a.1) rest (passed p (leaf_shown t a.0 a.1) count) (with_all seen (place_shown p t a.0 a.1)) one.sound one.counted first.marks in
    record {
      new = new-append p seen (place_shown p t a.0 a.1) (batch_shown p (after_place p t a.0 a.1) rest) first.new more.new;
      marks = rw with_all-append more.marks;
    }

turn_new : (p : Params) (t : FlatTable) (u : ℕ) (seen : Seen) → IsSound p t → Marks p t seen → (b : Bool) → t.lifted u ≡ b → NewLaw p (cond (t.lifted u) t (lift t u)) seen (cond (t.lifted u) [] (lift_shown p t u)) × IsSound p (cond (t.lifted u) t (lift t u))
turn_new p t u seen s m true is = (rw is (record { new = tt; marks = m }), rw is s)
turn_new p t u seen s m false is = (rw is (lift_new p t u seen s (m.next_is u is) (λ j. m.shown_is u j is) (λ v j off down. m.shown_is v j down) (λ v off down. m.next_is v down)), rw is (sound_lift p t u s))

pub final_new : (p : Params) (t : FlatTable) (us : List ℕ) (seen : Seen) → IsSound p t → Marks p t seen → NewLaw p (after_final p t us) seen (final_shown p t us)
final_new p t [] seen s m = record { new = tt; marks = m }
final_new p t (u ∷ us) seen s m =
    let t1 : FlatTable = cond (t.lifted u) t (lift t u) in
    let one : List Shown = cond (t.lifted u) [] (lift_shown p t u) in
    let first : NewLaw p t1 seen one × IsSound p t1 = turn_new p t u seen s m (t.lifted u) refl in
    let rest : NewLaw p (after_final p t1 us) (with_all seen one) (final_shown p t1 us) = final_new p t1 us (with_all seen one) first.1 (first.0).marks in
    record {
      new = new-append p seen one (final_shown p t1 us) (first.0).new rest.new;
      marks = rw with_all-append rest.marks;
    }
