-- The keys of the indexes that are picked leave their buckets.
use Rattle.std.specs.Prelude.{◌≡◌, ◌≢◌, ℕ, ◌+◌, ◌<◌, ◌≤◌, ◌==◌, Bool, true, false, cond, not, ◌&&◌, ◌||◌, List, [], ◌∷◌, ◌++◌, map, Option, unwrap_or}
use Rattle.std.specs.declared.option.Option.TheVariants.{None, Some}
use Rattle.std.specs.List.{find, range_with_len}
use Rattle.std.proofs.Common.{arith, refl, sym, ap, ◌∙◌, subst, inl, inr}
use Rattle.std.proofs.lemmas.Bool.{true≢false, false≢true, cases_Bool, or_cases, or_parts, or_left, or_right, eqb-true, eq-eqb, ne_eqb, cases_eq}
use Rattle.ob_base.specs.declared.params.Params.{Params}
use Rattle.ob_base.specs.Tree.{path, passes}
use Rattle.ob_schedule.specs.Paths.{is_one_of}
use Rattle.ob_ring.specs.FlatTable.{FlatTable, Row, Spot, InStash, In, Batch, spot_of, leaf_of, is_at, index_in, asked_row, asks_for, fetched, fetch, leaf_shown, index_shown, mark_index, lift, lift_order, leave, out_of, live, reads, visit, visits, after_place, after_batch, after_final}
use Rattle.ob_ring.specs.Laws.{IsOrderly}
use Rattle.ob_ring.specs.Sound.{IsSound, Placed}
use Rattle.ob_ring.specs.Picked.{Picked, holder, key_shown, lift_picked, visit_picked, visits_picked, place_picked, batch_picked, final_picked}
use Rattle.ob_ring.proofs.Members.{off_unless, IsDistinct}
use Rattle.ob_ring.proofs.Visits.{IsVacant, IsNew, index_shown_new, reads_mark_same, VisitLaw, visit_law, bump, off_itself}
use Rattle.ob_ring.proofs.Batches.{own_is_free}
use Rattle.ob_ring.proofs.Paths.{distinct_path}
use Rattle.ob_ring.proofs.Sounds.{spot-leave, sound_fetch, sound_mark, vacant_fetch}
use Rattle.ob_ring.proofs.LiftOrder.{is_at-is}
use Rattle.ob_ring.proofs.TableOf.{at_is, found_first, any_from}
use Rattle.ob_ring.proofs.PathLaws.{find_some}
use Rattle.ob_ring.proofs.TableLaws.{lifts_take_all, counts_in, counted_in, keeps_final, steps_keep_order, few_counted}
use Rattle.ob_ring.proofs.FetchLaws.{asked_key}
use Rattle.ob_ring.specs.Laws.{IsLiftOf}
use Rattle.ob_stand.specs.Takes.{is_present, spots, is_picked, AreOwn, Takes, KeepsKeys, AreKeysLow}

-- ---- lists of picks

pub picked-append : (xs ys : List Picked) (k : ℕ) → is_picked (xs ++ ys) k ≡ (is_picked xs k || is_picked ys k)
picked-append [] ys k = refl
picked-append (x ∷ xs) ys k = rw (picked-append xs ys k) (or_more (asks_for x.key k) (is_picked xs k) (is_picked ys k))
  where
    or_more : (a b c : Bool) → (a || (b || c)) ≡ ((a || b) || c)
    or_more true b c = refl
    or_more false b c = refl

asked_is : (o : Option ℕ) (k : ℕ) → asks_for o k ≡ true → o ≡ Some k
asked_is None k e = absurd (false≢true e)
asked_is (Some a) k e = ap (λ (x : ℕ). Some x) (eqb-true a k e)

is_asked : (o : Option ℕ) (k : ℕ) → o ≡ Some k → asks_for o k ≡ true
is_asked None k e = absurd (cc)
is_asked (Some a) k e = let x : a ≡ k = cc in eq-eqb a k x

-- a key that is picked lies in a bucket
pub picked_spot : (s : ℕ → Spot) (qs : List Picked) (k : ℕ) → AreOwn s qs → is_picked qs k ≡ true → (u : ℕ) × (j : ℕ) × (s k ≡ In u j)
picked_spot s [] k own e = absurd (false≢true e)
picked_spot s (q ∷ qs) k own e = elim (or_cases (asks_for q.key k) (is_picked qs k) e) [
  | inl here ↦ (q.bucket, q.index, own.0 k (asked_is q.key k here))
  | inr more ↦ picked_spot s qs k own.1 more
]

in_stash_not : (s : Spot) (u j : ℕ) → s ≡ In u j → s ≡ InStash → ⊥
in_stash_not s u j e f = let x : In u j ≡ InStash = sym e ∙ f in absurd (cc)

-- a key that lies in the stash is not picked
pub unpicked : (s : ℕ → Spot) (qs : List Picked) (k : ℕ) → AreOwn s qs → s k ≡ InStash → is_picked qs k ≡ false
unpicked s qs k own e = off_unless (is_picked qs k) (λ on. (let at : (u : ℕ) × (j : ℕ) × (s k ≡ In u j) = picked_spot s qs k own on in in_stash_not (s k) at.0 at.1 at.2 e))

own_append : (s : ℕ → Spot) (xs ys : List Picked) → AreOwn s xs → AreOwn s ys → AreOwn s (xs ++ ys)
own_append s [] ys a b = b
own_append s (x ∷ xs) ys a b = (a.0, own_append s xs ys a.1 b)

own_back : (s t : ℕ → Spot) (qs : List Picked) → ((k u j : ℕ) → t k ≡ In u j → s k ≡ In u j) → AreOwn t qs → AreOwn s qs
own_back s t [] h a = tt
own_back s t (q ∷ qs) h a = ((λ k e. h k q.bucket q.index (a.0 k e)), own_back s t qs h a.1)

-- what lies in a bucket afterwards lay there before
pub lay_there : (s t : ℕ → Spot) (qs : List Picked) (k u j : ℕ) → Takes s t qs → t k ≡ In u j → s k ≡ In u j
lay_there s t qs k u j takes e = elim (cases_Bool (is_picked qs k)) [
  | inl on ↦ absurd (in_stash_not (t k) u j e (takes.goes k on))
  | inr off ↦ sym (takes.stays k off) ∙ e
]

pub takes_none : (s t : ℕ → Spot) → ((k : ℕ) → t k ≡ s k) → Takes s t []
takes_none s t same = record { own = tt; goes = λ k on. absurd (false≢true on); stays = λ k off. same k }

pub takes_then : (s t v : ℕ → Spot) (xs ys : List Picked) → Takes s t xs → Takes t v ys → Takes s v (xs ++ ys)
takes_then s t v xs ys a b = record {
  own = own_append s xs ys a.own (own_back s t ys (λ k u j. lay_there s t xs k u j a) b.own);
  goes = λ k on. elim (cases_Bool (is_picked ys k)) [
    | inl more ↦ b.goes k more
    | inr off ↦ elim (or_cases (is_picked xs k) (is_picked ys k) (sym (picked-append xs ys k) ∙ on)) [
      | inl first ↦ b.stays k off ∙ a.goes k first
      | inr more ↦ b.goes k more
    ]
  ];
  stays = λ k off. (let parts : (is_picked xs k ≡ false) × (is_picked ys k ≡ false) = or_parts (is_picked xs k) (is_picked ys k) (sym (picked-append xs ys k) ∙ off) in
      b.stays k parts.1 ∙ a.stays k parts.0);
}

pub takes_like : (s s' t t' : ℕ → Spot) (qs : List Picked) → ((k : ℕ) → s' k ≡ s k) → ((k : ℕ) → t' k ≡ t k) → Takes s t qs → Takes s' t' qs
takes_like s s' t t' qs e f a = record {
  own = own_back s' s qs (λ k u j at. e k ∙ at) a.own;
  goes = λ k on. f k ∙ a.goes k on;
  stays = λ k off. f k ∙ a.stays k off ∙ sym (e k);
}

-- ---- a lift

pub present_at : (r : Option Row) (u j : ℕ) → spot_of r ≡ In u j → is_present r ≡ true
present_at None u j e = absurd (cc)
present_at (Some r) u j e = refl

-- the key that lies at an index is the one that is found there
pub holder_at : (p : Params) (t : FlatTable) (k u j : ℕ) → IsSound p t → AreKeysLow p t → spot_of (t.rows k) ≡ In u j → holder p t u j ≡ Some k
holder_at p t k u j s low e =
    let l : k < p.keys = low k (present_at (t.rows k) u j e) in
    found_first (λ i. is_at u j (spot_of (t.rows i))) 0 p.keys k (omega arith) (omega arith) (at_is u j (spot_of (t.rows k)) e)
    (λ i x y there. s.alone i k u j (is_at-is u j (spot_of (t.rows i)) there) e)

-- what is found at an index lies there
found_passes : (q : ℕ → Bool) (a n k : ℕ) → find q (range_with_len a n) ≡ Some k → q k ≡ true
found_passes q a n k e = (find_some q a n k e).on

pub holder_lies : (p : Params) (t : FlatTable) (k u j : ℕ) → holder p t u j ≡ Some k → spot_of (t.rows k) ≡ In u j
holder_lies p t k u j e = is_at-is u j (spot_of (t.rows k)) (found_passes (λ i. is_at u j (spot_of (t.rows i))) 0 p.keys k e)

lift_own : (p : Params) (t : FlatTable) (u : ℕ) (js : List ℕ) → AreOwn (spots t) (map (λ j. record { bucket = u; index = j; key = holder p t u j }) js)
lift_own p t u [] = tt
lift_own p t u (j ∷ js) = ((λ k e. holder_lies p t k u j e), lift_own p t u js)

-- a key that lies at one of the indexes is picked
lift_picks : (p : Params) (t : FlatTable) (u k j : ℕ) (js : List ℕ) → holder p t u j ≡ Some k → is_one_of js j ≡ true → is_picked (map (λ i. record { bucket = u; index = i; key = holder p t u i }) js) k ≡ true
lift_picks p t u k j [] e on = absurd (false≢true on)
lift_picks p t u k j (i ∷ js) e on = elim (or_cases (i == j) (is_one_of js j) on) [
  | inl here ↦ (let same : i ≡ j = eqb-true i j here in or_left (asks_for (holder p t u i) k) _ (is_asked (holder p t u i) k (ap (holder p t u) same ∙ e)))
  | inr more ↦ or_right (asks_for (holder p t u i) k) _ (lift_picks p t u k j js e more)
]

out_off : (w i u : ℕ) → (w == u) ≡ false → out_of u (In w i) ≡ In w i
out_off w i u off = ap (λ (b : Bool). cond b InStash (In w i)) off

out_on : (w i u : ℕ) → (w == u) ≡ true → out_of u (In w i) ≡ InStash
out_on w i u on = ap (λ (b : Bool). cond b InStash (In w i)) on

-- a spot that no lift of the bucket picks isn't in the bucket
out_same : (u : ℕ) (s : Spot) → ((j : ℕ) → s ≢ In u j) → out_of u s ≡ s
out_same u InStash h = refl
out_same u (In w i) h = elim (cases_eq w u) [
  | inl same ↦ absurd (h i (ap (λ (x : ℕ). In x i) same))
  | inr ne ↦ out_off w i u (ne_eqb w u ne)
]

out_gone : (u j : ℕ) (s : Spot) → s ≡ In u j → out_of u s ≡ InStash
out_gone u j s e = ap (out_of u) e ∙ out_on u j u (eq-eqb u u refl)

-- the bucket of a key that a lift picks
own_bucket : (p : Params) (t : FlatTable) (u k : ℕ) (js : List ℕ) → is_picked (map (λ i. record { bucket = u; index = i; key = holder p t u i }) js) k ≡ true → (j : ℕ) × (spot_of (t.rows k) ≡ In u j)
own_bucket p t u k [] e = absurd (false≢true e)
own_bucket p t u k (i ∷ js) e = elim (or_cases (asks_for (holder p t u i) k) _ e) [
  | inl here ↦ (i, holder_lies p t k u i (asked_is (holder p t u i) k here))
  | inr more ↦ own_bucket p t u k js more
]

live_at : (p : Params) (t : FlatTable) (k u j : ℕ) → AreKeysLow p t → spot_of (t.rows k) ≡ In u j → live p t u j ≡ true
live_at p t k u j low e = let l : k < p.keys = low k (present_at (t.rows k) u j e) in any_from (λ i. is_at u j (spot_of (t.rows i))) 0 p.keys k (omega arith) (omega arith) (at_is u j (spot_of (t.rows k)) e)

pub lift_takes : (p : Params) (t : FlatTable) (u : ℕ) → IsSound p t → AreKeysLow p t → reads p t u ≤ p.dummies → Takes (spots t) (spots (lift t u)) (lift_picked p t u)
lift_takes p t u s low few = record {
  own = lift_own p t u (lift_order p t u);
  goes = λ k on. (let at : (j : ℕ) × (spot_of (t.rows k) ≡ In u j) = own_bucket p t u k (lift_order p t u) on in
      spot-leave u (t.rows k) ∙ out_gone u at.0 (spot_of (t.rows k)) at.1);
  stays = λ k off. spot-leave u (t.rows k) ∙ out_same u (spot_of (t.rows k)) (λ j e.
      (let held : holder p t u j ≡ Some k = holder_at p t k u j s low e in
      let all : IsLiftOf p t u (lift_order p t u) = lifts_take_all p t u s few in
      true≢false (sym (lift_picks p t u k j (lift_order p t u) held (all.live_ones j (live_at p t k u j low e))) ∙ off)));
}

-- ---- a visit

-- whether the place's own bucket is still to be visited
abbrev awaits : Spot → List ℕ → Bool
awaits InStash us = false
awaits (In v i) us = is_one_of us v

-- While a place visits buckets, the key that it asked for counts as lying at its own index until its bucket is visited.
abbrev pending : FlatTable → Option ℕ → Spot → List ℕ → ℕ → Spot
pending t ask own us k = cond (awaits own us && asks_for ask k) own (spot_of (t.rows k))

and_off : (a b : Bool) → b ≡ false → (a && b) ≡ false
and_off true b e = e
and_off false b e = refl

unasked : (t : FlatTable) (ask : Option ℕ) (own : Spot) (us : List ℕ) (k : ℕ) → asks_for ask k ≡ false → pending t ask own us k ≡ spot_of (t.rows k)
unasked t ask own us k off = ap (λ (b : Bool). cond b own (spot_of (t.rows k))) (and_off (awaits own us) (asks_for ask k) off)

pub pending_takes : (t t' : FlatTable) (ask : Option ℕ) (own : Spot) (us : List ℕ) (qs : List Picked) → ((k : ℕ) → asks_for ask k ≡ true → spot_of (t.rows k) ≡ InStash) → Takes (spots t) (spots t') qs → Takes (pending t ask own us) (pending t' ask own us) qs
pending_takes t t' ask own us qs away a =
    let other : (k u j : ℕ) → spot_of (t.rows k) ≡ In u j → asks_for ask k ≡ false = λ k u j e. off_unless (asks_for ask k) (λ on. in_stash_not (spot_of (t.rows k)) u j e (away k on)) in
    record {
      own = own_back (pending t ask own us) (spots t) qs (λ k u j e. unasked t ask own us k (other k u j e) ∙ e) a.own;
      goes = λ k on. (let at : (u : ℕ) × (j : ℕ) × (spots t k ≡ In u j) = picked_spot (spots t) qs k a.own on in unasked t' ask own us k (other k at.0 at.1 at.2) ∙ a.goes k on);
      stays = λ k off. ap (λ (s : Spot). cond (awaits own us && asks_for ask k) own s) (a.stays k off);
    }

-- the first bucket is no longer awaited, where the place's own index isn't there
awaits_more : (own : Spot) (u : ℕ) (us : List ℕ) → ((j : ℕ) → own ≢ In u j) → awaits own us ≡ awaits own (u ∷ us)
awaits_more InStash u us h = refl
awaits_more (In v i) u us h = sym (ap (λ (b : Bool). b || is_one_of us v) (ne_eqb u v (λ e. h i (ap (λ (x : ℕ). In x i) (sym e)))))

pending_more : (t : FlatTable) (ask : Option ℕ) (own : Spot) (u : ℕ) (us : List ℕ) → ((j : ℕ) → own ≢ In u j) → (k : ℕ) → pending t ask own us k ≡ pending t ask own (u ∷ us) k
pending_more t ask own u us h k = ap (λ (b : Bool). cond (b && asks_for ask k) own (spot_of (t.rows k))) (awaits_more own u us h)

not_there : (v i u : ℕ) → (v == u) ≡ false → (j : ℕ) → In v i ≢ In u j
not_there v i u off j e = let same : v ≡ u = cc in eqb_not v u off same
  where
    eqb_not : (a b : ℕ) → (a == b) ≡ false → a ≡ b → ⊥
    eqb_not a b e same = true≢false (sym (eq-eqb a b same) ∙ e)

-- an index without a key is shown
show_other : (t t1 : FlatTable) (ask : Option ℕ) (own : Spot) (u j : ℕ) (us : List ℕ) → t1.rows ≡ t.rows → ((i : ℕ) → own ≢ In u i) → Takes (pending t ask own (u ∷ us)) (pending t1 ask own us) (record { bucket = u; index = j; key = None } ∷ [])
show_other t t1 ask own u j us same h = record {
  own = ((λ k e. absurd (none_some k e)), tt);
  goes = λ k on. absurd (false≢true on);
  stays = λ k off. ap (λ (f : ℕ → Option Row). cond (awaits own us && asks_for ask k) own (spot_of (f k))) same ∙ pending_more t ask own u us h k;
}
  where
    none_some : (k : ℕ) → None ≡ Some k → ⊥
    none_some k e = cc

-- the asked key's own index is shown
show_own : (t t1 : FlatTable) (ask : Option ℕ) (u i : ℕ) (us : List ℕ) → t1.rows ≡ t.rows → is_one_of us u ≡ false → ((k : ℕ) → asks_for ask k ≡ true → spot_of (t.rows k) ≡ InStash) → Takes (pending t ask (In u i) (u ∷ us)) (pending t1 ask (In u i) us)
    (record { bucket = u; index = i; key = ask } ∷ [])
show_own t t1 ask u i us same off away =
    let later : (k : ℕ) → pending t1 ask (In u i) us k ≡ spot_of (t.rows k) = λ k. ap (λ (b : Bool). cond (b && asks_for ask k) (In u i) (spot_of (t1.rows k))) off ∙ ap (λ (f : ℕ → Option Row). spot_of (f k)) same in
    record {
      own = ((λ k e. ap (λ (b : Bool). cond ((b || is_one_of us u) && asks_for ask k) (In u i) (spot_of (t.rows k))) (eq-eqb u u refl) ∙ ap (λ (b : Bool). cond b (In u i) (spot_of (t.rows k))) (is_asked ask k e)), tt);
      goes = λ k on. later k ∙ away k (elim (or_cases (asks_for ask k) false on) [ inl e ↦ e | inr e ↦ absurd (false≢true e) ]);
      stays = λ k none. later k ∙ sym (unasked t ask (In u i) (u ∷ us) k (or_parts (asks_for ask k) false none).0);
    }

show_case : (t t1 : FlatTable) (ask : Option ℕ) (v i u o : ℕ) (us : List ℕ) (b : Bool) → (v == u) ≡ b → t1.rows ≡ t.rows → is_one_of us u ≡ false → ((k : ℕ) → asks_for ask k ≡ true → spot_of (t.rows k) ≡ InStash)
    → Takes (pending t ask (In v i) (u ∷ us)) (pending t1 ask (In v i) us) (record { bucket = u; index = unwrap_or (cond b (Some i) None) o; key = key_shown ask (cond b (Some i) None) } ∷ [])
show_case t t1 ask v i u o us true is same off away =
    let here : v ≡ u = eqb-true v u is in
    subst (λ (x : ℕ). Takes (pending t ask (In x i) (u ∷ us)) (pending t1 ask (In x i) us) (record { bucket = u; index = i; key = ask } ∷ [])) (sym here) (show_own t t1 ask u i us same off away)
show_case t t1 ask v i u o us false is same off away = show_other t t1 ask (In v i) u o us same (not_there v i u is)

show_takes : (p : Params) (t t1 : FlatTable) (ask : Option ℕ) (own : Spot) (u : ℕ) (us : List ℕ) → t1.rows ≡ t.rows → is_one_of us u ≡ false → ((k : ℕ) → asks_for ask k ≡ true → spot_of (t.rows k) ≡ InStash)
    → Takes (pending t ask own (u ∷ us)) (pending t1 ask own us) (record { bucket = u; index = index_shown p t own u; key = key_shown ask (index_in u own) } ∷ [])
show_takes p t t1 ask InStash u us same off away = show_other t t1 ask InStash u (index_shown p t InStash u) us same (λ j e. in_stash_not InStash u j e refl)
show_takes p t t1 ask (In v i) u us same off away = show_case t t1 ask v i u (unwrap_or (find (λ j. not (t.used u j)) (range_with_len p.real p.dummies)) 0) us (v == u) refl same off away

-- what is true while a place visits buckets
pub record Visiting (p : Params) (t : FlatTable) (ask : Option ℕ) (own : Spot) (us : List ℕ) : Type 0 where
  pub orderly : IsOrderly p t
  pub low : AreKeysLow p t
  pub away : (k : ℕ) → asks_for ask k ≡ true → spot_of (t.rows k) ≡ InStash
  pub gone : IsVacant t own
  pub free : (u j : ℕ) → is_one_of us u ≡ true → own ≡ In u j → (j < p.real) × (t.used u j ≡ false)
  pub standing : (u j : ℕ) → is_one_of us u ≡ true → own ≡ In u j → t.lifted u ≡ false

-- a visit, by whether the bucket is lifted and whether this is its version's last read
abbrev step : Bool → Bool → FlatTable → ℕ → ℕ → FlatTable
step up last t u j = cond up t (cond last (lift (mark_index t u j) u) (mark_index t u j))

pub leave_present : (u : ℕ) (r : Option Row) → is_present (leave u r) ≡ is_present r
leave_present u None = refl
leave_present u (Some r) = refl

step_present : (up last : Bool) (t : FlatTable) (u j k : ℕ) → is_present ((step up last t u j).rows k) ≡ is_present (t.rows k)
step_present true last t u j k = refl
step_present false true t u j k = leave_present u (t.rows k)
step_present false false t u j k = refl

step_stash : (up last : Bool) (t : FlatTable) (u j k : ℕ) → spot_of (t.rows k) ≡ InStash → spot_of ((step up last t u j).rows k) ≡ InStash
step_stash true last t u j k e = e
step_stash false true t u j k e = spot-leave u (t.rows k) ∙ ap (out_of u) e
step_stash false false t u j k e = e

step_lifted : (up last : Bool) (t : FlatTable) (u j v : ℕ) → (v == u) ≡ false → (step up last t u j).lifted v ≡ t.lifted v
step_lifted true last t u j v off = refl
step_lifted false true t u j v off = ap (λ (b : Bool). b || t.lifted v) off
step_lifted false false t u j v off = refl

visit_case : (p : Params) (t : FlatTable) (ask : Option ℕ) (own : Spot) (u : ℕ) (us : List ℕ) (up last : Bool) → t.lifted u ≡ up → is_one_of us u ≡ false → Visiting p t ask own (u ∷ us)
    → Takes (pending t ask own (u ∷ us)) (pending (step up last t u (index_shown p t own u)) ask own us) (cond up [] (record { bucket = u; index = index_shown p t own u; key = key_shown ask (index_in u own) } ∷ cond last (lift_picked p (mark_index t u (index_shown p t own u)) u) []))
visit_case p t ask own u us true last is off v = takes_none (pending t ask own (u ∷ us)) (pending t ask own us)
    (pending_more t ask own u us (λ j e. true≢false (sym is ∙ v.standing u j (or_left (u == u) (is_one_of us u) (eq-eqb u u refl)) e)))
visit_case p t ask own u us false true is off v =
    let few : reads p t u < p.dummies = (v.orderly).few u is in
    let j : ℕ = index_shown p t own u in
    let t1 : FlatTable = mark_index t u j in
    let new : IsNew p t u j = index_shown_new p t own u (v.orderly).sound few v.gone (λ i. v.free u i (or_left (u == u) (is_one_of us u) (eq-eqb u u refl))) in
    let many : reads p t1 u ≤ p.dummies = omega (arith, reads_mark_same p t u j new.within new.unread, few) in
    takes_then (pending t ask own (u ∷ us)) (pending t1 ask own us) (pending (lift t1 u) ask own us) (record { bucket = u; index = j; key = key_shown ask (index_in u own) } ∷ []) (lift_picked p t1 u)
    (show_takes p t t1 ask own u us refl off v.away)
    (pending_takes t1 (lift t1 u) ask own us (lift_picked p t1 u) v.away (lift_takes p t1 u (sound_mark p t u j new.vacant (v.orderly).sound) v.low many))
visit_case p t ask own u us false false is off v = show_takes p t (mark_index t u (index_shown p t own u)) ask own u us refl off v.away

visit_takes : (p : Params) (t : FlatTable) (ask : Option ℕ) (own : Spot) (u : ℕ) (us : List ℕ) → is_one_of us u ≡ false → Visiting p t ask own (u ∷ us) → Takes (pending t ask own (u ∷ us)) (pending (visit p t own u) ask own us) (visit_picked p t ask own u)
visit_takes p t ask own u us off v = visit_case p t ask own u us (t.lifted u) (reads p t u + 1 == p.dummies) refl off v

visiting_next : (p : Params) (t : FlatTable) (ask : Option ℕ) (own : Spot) (u : ℕ) (us : List ℕ) → is_one_of us u ≡ false → Visiting p t ask own (u ∷ us) → Visiting p (visit p t own u) ask own us
visiting_next p t ask own u us off v =
    let law : VisitLaw p t own u (counts_in p t) = visit_law p t own u (counts_in p t) (v.orderly).sound (counted_in p t v.orderly) v.gone (λ j. v.free u j (or_left (u == u) (is_one_of us u) (eq-eqb u u refl))) in
    let last : Bool = reads p t u + 1 == p.dummies in
    record {
      orderly = record { sound = law.sound; few = few_counted p (visit p t own u) (bump u (counts_in p t)) law.counted };
      low = λ k e. v.low k (sym (step_present (t.lifted u) (reads p t u + 1 == p.dummies) t u (index_shown p t own u) k) ∙ e);
      away = λ k on. step_stash (t.lifted u) (reads p t u + 1 == p.dummies) t u (index_shown p t own u) k (v.away k on);
      gone = law.gone;
      free = λ w j on e. (let f : (j < p.real) × (t.used w j ≡ false) = v.free w j (or_right (u == w) (is_one_of us w) on) e in
          (f.0, law.others w j (off_itself us u w off on) ∙ f.1));
      standing = λ w j on e. step_lifted (t.lifted u) (reads p t u + 1 == p.dummies) t u (index_shown p t own u) w (off_itself us u w off on) ∙ v.standing w j (or_right (u == w) (is_one_of us w) on) e;
    }

pub visits_take : (p : Params) (t : FlatTable) (ask : Option ℕ) (own : Spot) (us : List ℕ) → IsDistinct us → Visiting p t ask own us → Takes (pending t ask own us) (pending (visits p t own us) ask own []) (visits_picked p t ask own us)
visits_take p t ask own [] d v = takes_none (pending t ask own []) (pending t ask own []) (λ k. refl)
visits_take p t ask own (u ∷ us) d v =
    takes_then (pending t ask own (u ∷ us)) (pending (visit p t own u) ask own us) (pending (visits p t own (u ∷ us)) ask own []) (visit_picked p t ask own u) (visits_picked p (visit p t own u) ask own us)
    (visit_takes p t ask own u us d.0 v)
    (visits_take p (visit p t own u) ask own us d.1 (visiting_next p t ask own u us d.0 v))

-- ---- a place

fetched_present : (b : Bool) (leaf : ℕ) (r : Option Row) → is_present (fetched b leaf r) ≡ is_present r
fetched_present b leaf None = refl
fetched_present b leaf (Some r) = refl

fetched_away : (b : Bool) (leaf : ℕ) (r : Option Row) → b ≡ true → spot_of (fetched b leaf r) ≡ InStash
fetched_away b leaf None on = refl
fetched_away true leaf (Some r) on = refl
fetched_away false leaf (Some r) on = absurd (false≢true on)

fetched_stays : (b : Bool) (leaf : ℕ) (r : Option Row) → b ≡ false → spot_of (fetched b leaf r) ≡ spot_of r
fetched_stays b leaf None off = refl
fetched_stays true leaf (Some r) off = absurd (true≢false off)
fetched_stays false leaf (Some r) off = refl

own_stands : (p : Params) (t : FlatTable) (ask : Option ℕ) → IsSound p t → (u j : ℕ) → spot_of (asked_row t ask) ≡ In u j → t.lifted u ≡ false
own_stands p t None s u j e = absurd (cc)
own_stands p t (Some k) s u j e = (s.placed k u j e).standing

pub visiting_first : (p : Params) (t : FlatTable) (ask : Option ℕ) (leaf : ℕ) (us : List ℕ) → IsOrderly p t → AreKeysLow p t → Visiting p (fetch t ask leaf) ask (spot_of (asked_row t ask)) us
visiting_first p t ask leaf us o low = record {
  orderly = record { sound = sound_fetch p t ask leaf o.sound; few = λ u. o.few u };
  low = λ k e. low k (sym (fetched_present (asks_for ask k) leaf (t.rows k)) ∙ e);
  away = λ k on. fetched_away (asks_for ask k) leaf (t.rows k) on;
  gone = λ k u j. vacant_fetch p t ask leaf o.sound k u j;
  free = λ u j on. own_is_free p t ask o.sound u j;
  standing = λ u j on. own_stands p t ask o.sound u j;
}

pending_end : (t : FlatTable) (ask : Option ℕ) (own : Spot) (k : ℕ) → spot_of (t.rows k) ≡ pending t ask own [] k
pending_end t ask InStash k = refl
pending_end t ask (In v i) k = refl

leaf_any : (r : Option Row) (u j x y : ℕ) → spot_of r ≡ In u j → leaf_of r x ≡ leaf_of r y
leaf_any None u j x y e = absurd (cc)
leaf_any (Some r) u j x y e = refl

-- the asked key's row, before the place's visits: its bucket is on the path that the place shows
first_case : (p : Params) (r : Option Row) (b : Bool) (leaf : ℕ) (own : Spot) → ((u j : ℕ) → own ≡ In u j → passes p u (leaf_of r leaf) ≡ true) → b ≡ true → spot_of r ≡ own → own ≡ cond (awaits own (path p (leaf_of r leaf)) && b) own (spot_of (fetched b leaf r))
first_case p r b leaf InStash on asked e = sym (fetched_away b leaf r asked)
first_case p r b leaf (In v i) on asked e = sym (ap (λ (c : Bool). cond (c && b) (In v i) (spot_of (fetched b leaf r))) (on v i refl) ∙ ap (λ (c : Bool). cond c (In v i) (spot_of (fetched b leaf r))) asked)

pending_first : (p : Params) (t : FlatTable) (ask : Option ℕ) (leaf k : ℕ) → IsSound p t → spot_of (t.rows k) ≡ pending (fetch t ask leaf) ask (spot_of (asked_row t ask)) (path p (leaf_shown t ask leaf)) k
pending_first p t ask leaf k s = elim (cases_Bool (asks_for ask k)) [
  | inl on ↦ (let row : asked_row t ask ≡ t.rows k = asked_key t ask k on in
      subst (λ (r : Option Row). spot_of (t.rows k) ≡ cond (awaits (spot_of r) (path p (leaf_of r leaf)) && asks_for ask k) (spot_of r) (spot_of (fetched (asks_for ask k) leaf (t.rows k)))) (sym row)
      (first_case p (t.rows k) (asks_for ask k) leaf (spot_of (t.rows k))
      (λ u j e. (let at : Placed p t k u j = s.placed k u j e in subst (λ (x : ℕ). passes p u x ≡ true) (leaf_any (t.rows k) u j 0 leaf e) at.on_path))
      on refl))
  | inr off ↦ sym (unasked (fetch t ask leaf) ask (spot_of (asked_row t ask)) (path p (leaf_shown t ask leaf)) k off ∙ fetched_stays (asks_for ask k) leaf (t.rows k) off)
]

pub place_takes : (p : Params) (t : FlatTable) (ask : Option ℕ) (leaf : ℕ) → IsOrderly p t → AreKeysLow p t → Takes (spots t) (spots (after_place p t ask leaf)) (place_picked p t ask leaf)
place_takes p t ask leaf o low =
    let own : Spot = spot_of (asked_row t ask) in
    let us : List ℕ = path p (leaf_shown t ask leaf) in
    takes_like (pending (fetch t ask leaf) ask own us) (spots t) (pending (after_place p t ask leaf) ask own []) (spots (after_place p t ask leaf)) (place_picked p t ask leaf)
    (λ k. pending_first p t ask leaf k o.sound)
    (λ k. pending_end (after_place p t ask leaf) ask own k)
    (visits_take p (fetch t ask leaf) ask own us (distinct_path p (leaf_shown t ask leaf)) (visiting_first p t ask leaf us o low))

-- ---- what keeps the keys, and what stays in the stash

visits_present : (p : Params) (t : FlatTable) (own : Spot) (us : List ℕ) (k : ℕ) → is_present ((visits p t own us).rows k) ≡ is_present (t.rows k)
visits_present p t own [] k = refl
visits_present p t own (u ∷ us) k = visits_present p (visit p t own u) own us k ∙ step_present (t.lifted u) (reads p t u + 1 == p.dummies) t u (index_shown p t own u) k

visits_stash : (p : Params) (t : FlatTable) (own : Spot) (us : List ℕ) (k : ℕ) → spot_of (t.rows k) ≡ InStash → spot_of ((visits p t own us).rows k) ≡ InStash
visits_stash p t own [] k e = e
visits_stash p t own (u ∷ us) k e = visits_stash p (visit p t own u) own us k (step_stash (t.lifted u) (reads p t u + 1 == p.dummies) t u (index_shown p t own u) k e)

place_present : (p : Params) (t : FlatTable) (ask : Option ℕ) (leaf k : ℕ) → is_present ((after_place p t ask leaf).rows k) ≡ is_present (t.rows k)
place_present p t ask leaf k = visits_present p (fetch t ask leaf) (spot_of (asked_row t ask)) (path p (leaf_shown t ask leaf)) k ∙ fetched_present (asks_for ask k) leaf (t.rows k)

-- the asked key lies in the stash after its place
pub place_asked : (p : Params) (t : FlatTable) (ask : Option ℕ) (leaf k : ℕ) → asks_for ask k ≡ true → spot_of ((after_place p t ask leaf).rows k) ≡ InStash
place_asked p t ask leaf k on = visits_stash p (fetch t ask leaf) (spot_of (asked_row t ask)) (path p (leaf_shown t ask leaf)) k (fetched_away (asks_for ask k) leaf (t.rows k) on)

fetched_stash : (b : Bool) (leaf : ℕ) (r : Option Row) → spot_of r ≡ InStash → spot_of (fetched b leaf r) ≡ InStash
fetched_stash b leaf None e = refl
fetched_stash true leaf (Some r) e = refl
fetched_stash false leaf (Some r) e = e

place_stash : (p : Params) (t : FlatTable) (ask : Option ℕ) (leaf k : ℕ) → spot_of (t.rows k) ≡ InStash → spot_of ((after_place p t ask leaf).rows k) ≡ InStash
place_stash p t ask leaf k e = visits_stash p (fetch t ask leaf) (spot_of (asked_row t ask)) (path p (leaf_shown t ask leaf)) k (fetched_stash (asks_for ask k) leaf (t.rows k) e)

-- ---- a batch

pub batch_present : (p : Params) (t : FlatTable) (places : List (Option ℕ × ℕ)) → KeepsKeys t (after_batch p t places)
batch_present p t [] k = refl
batch_present p t (a ∷ rest) k = batch_present p (after_place p t a.0 a.1) rest k ∙ place_present p t a.0 a.1 k

pub batch_stash : (p : Params) (t : FlatTable) (places : List (Option ℕ × ℕ)) (k : ℕ) → spot_of (t.rows k) ≡ InStash → spot_of ((after_batch p t places).rows k) ≡ InStash
batch_stash p t [] k e = e
batch_stash p t (a ∷ rest) k e = batch_stash p (after_place p t a.0 a.1) rest k (place_stash p t a.0 a.1 k e)

low_kept : (p : Params) (t t' : FlatTable) → AreKeysLow p t → KeepsKeys t t' → AreKeysLow p t'
low_kept p t t' low same k e = low k (sym (same k) ∙ e)

pub batch_takes : (p : Params) (t : FlatTable) (places : List (Option ℕ × ℕ)) → IsOrderly p t → AreKeysLow p t → Takes (spots t) (spots (after_batch p t places)) (batch_picked p t places)
batch_takes p t [] o low = takes_none (spots t) (spots t) (λ k. refl)
batch_takes p t (a ∷ rest) o low =
    let t1 : FlatTable = after_place p t a.0 a.1 in
    takes_then (spots t) (spots t1) (spots (after_batch p t1 rest)) (place_picked p t a.0 a.1) (batch_picked p t1 rest)
    (place_takes p t a.0 a.1 o low)
    (batch_takes p t1 rest (steps_keep_order p t (Batch (a ∷ [])) o) (low_kept p t t1 low (λ k. place_present p t a.0 a.1 k)))

-- ---- the final lifts

turn_present : (t : FlatTable) (u : ℕ) (b : Bool) (k : ℕ) → is_present ((cond b t (lift t u)).rows k) ≡ is_present (t.rows k)
turn_present t u true k = refl
turn_present t u false k = leave_present u (t.rows k)

pub final_present : (p : Params) (t : FlatTable) (us : List ℕ) → KeepsKeys t (after_final p t us)
final_present p t [] k = refl
final_present p t (u ∷ us) k = final_present p (cond (t.lifted u) t (lift t u)) us k ∙ turn_present t u (t.lifted u) k

turn_takes : (p : Params) (t : FlatTable) (u : ℕ) (b : Bool) → t.lifted u ≡ b → IsOrderly p t → AreKeysLow p t → Takes (spots t) (spots (cond b t (lift t u))) (cond b [] (lift_picked p t u))
turn_takes p t u true is o low = takes_none (spots t) (spots t) (λ k. refl)
turn_takes p t u false is o low = let few : reads p t u < p.dummies = o.few u is in lift_takes p t u o.sound low (omega arith)

pub final_takes : (p : Params) (t : FlatTable) (us : List ℕ) → IsOrderly p t → AreKeysLow p t → Takes (spots t) (spots (after_final p t us)) (final_picked p t us)
final_takes p t [] o low = takes_none (spots t) (spots t) (λ k. refl)
final_takes p t (u ∷ us) o low =
    let t1 : FlatTable = cond (t.lifted u) t (lift t u) in
    takes_then (spots t) (spots t1) (spots (after_final p t1 us)) (cond (t.lifted u) [] (lift_picked p t u)) (final_picked p t1 us)
    (turn_takes p t u (t.lifted u) refl o low)
    (final_takes p t1 us (keeps_final p t (u ∷ []) o) (low_kept p t t1 low (λ k. turn_present t u (t.lifted u) k)))
