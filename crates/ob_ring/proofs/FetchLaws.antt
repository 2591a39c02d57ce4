-- A place's key is taken out, and the places of a batch follow one another.
use Rattle.std.specs.Prelude.{◌≡◌, ℕ, ◌+◌, ◌^◌, ◌<◌, Bool, true, false, cond, List, [], ◌∷◌, ◌++◌, map, length, Option, slice_index_or}
use Rattle.std.specs.declared.option.Option.TheVariants.{None, Some}
use Rattle.std.proofs.Common.{suc, arith, refl, sym, ap, subst, ◌∙◌, length-append}
use Rattle.std.proofs.lemmas.Bool.{true≢false, false≢true, eqb-true, eq-eqb}
use Rattle.ob_base.specs.declared.params.Params.{Params}
use Rattle.ob_base.specs.declared.job.Job.{Job}
use Rattle.ob_base.specs.declared.job.Place.{Place}
use Rattle.ob_base.specs.Tree.{path}
use Rattle.ob_base.specs.Planned.{Planned}
use Rattle.ob_tables.specs.Version.{key_at}
use Rattle.ob_tables.specs.Buckets.{Buckets, version_at, is_lifted}
use Rattle.ob_tables.specs.declared.entry.Entry.{Entry}
use Rattle.ob_tables.specs.Kept.{entry_at}
use Rattle.ob_ring.specs.declared.found.Found.{Found}
use Rattle.ob_ring.specs.FlatTable.{FlatTable, Row, Spot, InStash, In, Batch, spot_of, leaf_of, is_at, asked_row, asks_for, fetched, fetch, leaf_shown, after_place, after_batch, visits, rebound, after_label}
use Rattle.ob_ring.specs.Sound.{IsSound}
use Rattle.ob_ring.specs.Laws.{IsOrderly}
use Rattle.ob_ring.specs.Arrays.{Arrays, IsTableOf, Rest, arrays_of, rest_of, leaf_in, leaf_of_entry}
use Rattle.ob_ring.specs.Picked.{Picked, Plans, job_of, visits_picked, place_picked, batch_picked, places_from, spot_at}
use Rattle.ob_ring.specs.Fetching.{IsBook, kept_of, leaf_of_place, IsKeptFound, IsAskFound, IsFetched, Fetches, leaf_places, after_labels}
use Rattle.ob_ring.proofs.Members.{off_unless}
use Rattle.ob_ring.proofs.Sounds.{fetched-In}
use Rattle.ob_ring.proofs.LiftOrder.{is_at-is}
use Rattle.ob_ring.proofs.Appends.{append_more, append_none, map-both}
use Rattle.ob_ring.proofs.TableLaws.{steps_keep_order}
use Rattle.ob_ring.proofs.TableOf.{table_like, at_is}
use Rattle.ob_ring.proofs.PlanLaws.{job_same, seals_then}
use Rattle.ob_ring.proofs.PathLaws.{spot_is}

-- ---- the asked key's row

leaf_none : (r : Option Row) → leaf_in r ≡ None → spot_of r ≡ InStash
leaf_none None e = refl
leaf_none (Some r) e = absurd (cc)

pub leaf_some : (r : Option Row) (x d : ℕ) → leaf_in r ≡ Some x → leaf_of r d ≡ x
leaf_some None x d e = absurd (cc)
leaf_some (Some r) x d e = cc

leaf_else : (r : Option Row) (x : ℕ) → leaf_in r ≡ None → leaf_of r x ≡ x
leaf_else None x e = refl
leaf_else (Some r) x e = absurd (cc)

kept_spot : (p : Params) (s : Buckets) (rest : Rest) (t : FlatTable) (k : ℕ) (o : Option Entry) (found : Option Found) → IsSound p t → IsTableOf p (arrays_of s rest) t → rest.leaf_at k ≡ leaf_of_entry o → IsKeptFound p s k o found → spot_of (t.rows k) ≡ spot_at found
kept_spot p s rest t k None found sound is e none = leaf_none (t.rows k) (is.leaves_are k ∙ e) ∙ sym (ap spot_at none)
kept_spot p s rest t k (Some o) found sound is e f = spot_is p s (λ u. is_lifted s u) rest t k o.leaf found sound is (leaf_some (t.rows k) o.leaf 0 (is.leaves_are k ∙ e)) f

pub fetched_spot : (p : Params) (s : Buckets) (book : List (Option Entry)) (c : ℕ) (t : FlatTable) (ask : Option ℕ) (found : Option Found) → IsSound p t → IsTableOf p (arrays_of s (rest_of book c)) t → IsAskFound p s book ask found → spot_of (asked_row t ask) ≡ spot_at found
fetched_spot p s book c t None found sound is none = sym (ap spot_at none)
fetched_spot p s book c t (Some k) found sound is f = kept_spot p s (rest_of book c) t k (entry_at book k) found sound is refl f

shown_case : (r : Option Row) (o : Option Entry) (own : Entry) → leaf_in r ≡ leaf_of_entry o → leaf_of r own.leaf ≡ leaf_of_place o own
shown_case r None own e = leaf_else r own.leaf e
shown_case r (Some o) own e = leaf_some r o.leaf own.leaf e

pub shown_leaf : (p : Params) (s : Buckets) (book : List (Option Entry)) (c : ℕ) (t : FlatTable) (ask : Option ℕ) (own : Entry) → IsTableOf p (arrays_of s (rest_of book c)) t → leaf_shown t ask own.leaf ≡ leaf_of_place (kept_of book ask) own
shown_leaf p s book c t None own is = refl
shown_leaf p s book c t (Some k) own is = shown_case (t.rows k) (entry_at book k) own (is.leaves_are k)

-- ---- the arrays after a key is taken out

abbrev pub with_leaf : Bool → ℕ → Option ℕ → Option ℕ
with_leaf asked leaf None = None
with_leaf asked leaf (Some x) = Some (cond asked leaf x)

abbrev pub with_fetched : Arrays → Option ℕ → Spot → ℕ → Arrays
with_fetched a ask own leaf = record a { key_at = λ v i. cond (is_at v i own) None (a.key_at v i); leaf_at = λ k. with_leaf (asks_for ask k) leaf (a.leaf_at k) }

pub emptied : (b : Bool) (o : Option ℕ) (k : ℕ) → cond b None o ≡ Some k → (b ≡ false) × (o ≡ Some k)
emptied true o k e = absurd (cc)
emptied false o k e = (refl, e)

leaf_fetched : (asked : Bool) (leaf : ℕ) (r : Option Row) (o : Option ℕ) → leaf_in r ≡ o → leaf_in (fetched asked leaf r) ≡ with_leaf asked leaf o
leaf_fetched asked leaf None None e = refl
leaf_fetched asked leaf None (Some x) e = absurd (cc)
leaf_fetched asked leaf (Some r) None e = absurd (cc)
leaf_fetched true leaf (Some r) (Some x) e = refl
leaf_fetched false leaf (Some r) (Some x) e = e

still_some : (b : Bool) (leaf : ℕ) (o : Option ℕ) (x : ℕ) → with_leaf b leaf o ≡ Some x → (y : ℕ) × (o ≡ Some y)
still_some b leaf None x e = absurd (cc)
still_some b leaf (Some y) x e = (y, refl)

asked_spot : (t : FlatTable) (ask : Option ℕ) (u j : ℕ) → spot_of (asked_row t ask) ≡ In u j → (a : ℕ) × (ask ≡ Some a) × (spot_of (t.rows a) ≡ In u j)
asked_spot t None u j e = absurd (cc)
asked_spot t (Some a) u j e = (a, refl, e)

pub asked_key : (t : FlatTable) (ask : Option ℕ) (k : ℕ) → asks_for ask k ≡ true → asked_row t ask ≡ t.rows k
asked_key t None k e = absurd (false≢true e)
asked_key t (Some a) k e = ap t.rows (eqb-true a k e)

pub asks_some : (ask : Option ℕ) (a k : ℕ) → ask ≡ Some a → a ≡ k → asks_for ask k ≡ true
asks_some None a k e f = absurd (cc)
asks_some (Some c) a k e f = let x : c ≡ a = cc in eq-eqb c k (x ∙ f)

unasked : (b : Bool) (leaf : ℕ) (r : Option Row) (u j : ℕ) → b ≡ false → spot_of r ≡ In u j → spot_of (fetched b leaf r) ≡ In u j
unasked b leaf None u j off e = e
unasked true leaf (Some r) u j off e = absurd (true≢false off)
unasked false leaf (Some r) u j off e = e

pub one_key : (o : Option ℕ) (k c : ℕ) → o ≡ Some k → o ≡ Some c → c ≡ k
one_key o k c e f = cc

pub fetch_is : (p : Params) (a : Arrays) (t : FlatTable) (ask : Option ℕ) (leaf : ℕ) → IsTableOf p a t → IsTableOf p (with_fetched a ask (spot_of (asked_row t ask)) leaf) (fetch t ask leaf)
fetch_is p a t ask leaf is = record {
  keys_low = λ k x e. (let s : (y : ℕ) × (a.leaf_at k ≡ Some y) = still_some (asks_for ask k) leaf (a.leaf_at k) x e in is.keys_low k s.0 s.1);
  leaves_are = λ k. leaf_fetched (asks_for ask k) leaf (t.rows k) (a.leaf_at k) (is.leaves_are k);
  spots_are = λ k v i. (
    (λ e. (let was : (asks_for ask k ≡ false) × (spot_of (t.rows k) ≡ In v i) × (leaf_of (fetched (asks_for ask k) leaf (t.rows k)) 0 ≡ leaf_of (t.rows k) 0) = fetched-In (asks_for ask k) leaf (t.rows k) v i e in
        let key : a.key_at v i ≡ Some k = (is.spots_are k v i).0 was.1 in
        let off : is_at v i (spot_of (asked_row t ask)) ≡ false = off_unless (is_at v i (spot_of (asked_row t ask))) (λ on.
        (let c : (b : ℕ) × (ask ≡ Some b) × (spot_of (t.rows b) ≡ In v i) = asked_spot t ask v i (is_at-is v i (spot_of (asked_row t ask)) on) in
        true≢false (sym (asks_some ask c.0 k c.1 (one_key (a.key_at v i) k c.0 key ((is.spots_are c.0 v i).0 c.2))) ∙ was.0))) in
        ap (λ (b : Bool). cond b None (a.key_at v i)) off ∙ key)),
    (λ e. (let was : (is_at v i (spot_of (asked_row t ask)) ≡ false) × (a.key_at v i ≡ Some k) = emptied (is_at v i (spot_of (asked_row t ask))) (a.key_at v i) k e in
        let at : spot_of (t.rows k) ≡ In v i = (is.spots_are k v i).1 was.1 in
        let off : asks_for ask k ≡ false = off_unless (asks_for ask k) (λ on. true≢false (sym (at_is v i (spot_of (asked_row t ask)) (ap spot_of (asked_key t ask k on) ∙ at)) ∙ was.0)) in
        unasked (asks_for ask k) leaf (t.rows k) v i off at)),
  );
  used_is = is.used_is;
  lifted_is = is.lifted_is;
  counter_is = is.counter_is;
}

label_leaf : (b : Bool) (own : Entry) (o : Option Entry) → with_leaf b own.leaf (leaf_of_entry o) ≡ leaf_of_entry (rebound b own o)
label_leaf b own None = refl
label_leaf true own (Some e) = refl
label_leaf false own (Some e) = refl

-- the arrays after a place's key was taken out stand for the table after the flat fetch
pub fetched_is : (p : Params) (book_old book_new : List (Option Entry)) (old new : Buckets) (ask : Option ℕ) (own : Entry) (found : Option Found) (c : ℕ) (t : FlatTable) → IsFetched p book_old book_new old new ask own found → IsSound p t → IsTableOf p
    (arrays_of old (rest_of book_old c)) t → IsTableOf p (arrays_of new (rest_of book_new c)) (fetch t ask own.leaf)
fetched_is p book_old book_new old new ask own found c t f sound is =
    let at : spot_of (asked_row t ask) ≡ spot_at found = fetched_spot p old book_old c t ask found sound is f.found in
    table_like p (with_fetched (arrays_of old (rest_of book_old c)) ask (spot_of (asked_row t ask)) own.leaf) (arrays_of new (rest_of book_new c)) (fetch t ask own.leaf)
    (fetch_is p (arrays_of old (rest_of book_old c)) t ask own.leaf is)
    (λ u j. ap (λ (s : Spot). cond (is_at u j s) None (key_at (version_at old.versions u) j)) at ∙ sym ((f.taken).keys u j))
    (λ u j. sym ((f.taken).used u j))
    (λ u. ap (λ (xs : List Bool). slice_index_or xs u false) (sym (f.taken).lifted))
    (λ k. label_leaf (asks_for ask k) own (entry_at book_old k) ∙ sym (ap leaf_of_entry (f.labels k)))
    refl

-- ---- a place

rebound_low : (p : Params) (b : Bool) (own : Entry) (o : Option Entry) (e : Entry) → own.leaf < 2 ^ p.levels → ((x : Entry) → o ≡ Some x → x.leaf < 2 ^ p.levels) → rebound b own o ≡ Some e → e.leaf < 2 ^ p.levels
rebound_low p b own None e h low same = absurd (cc)
rebound_low p true own (Some x) e h low same = let at : own ≡ e = cc in subst (λ (y : Entry). y.leaf < 2 ^ p.levels) at h
rebound_low p false own (Some x) e h low same = let at : x ≡ e = cc in subst (λ (y : Entry). y.leaf < 2 ^ p.levels) at (low x refl)

pub book_fetched : (p : Params) (book_old book_new : List (Option Entry)) (old new : Buckets) (ask : Option ℕ) (own : Entry) (found : Option Found) → IsBook p book_old → own.leaf < 2 ^ p.levels → IsFetched p book_old book_new old new ask own found → IsBook p book_new
book_fetched p book_old book_new old new ask own found b h f = record {
  many = f.many ∙ b.many;
  leaves = λ k e at. rebound_low p (asks_for ask k) own (entry_at book_old k) e h (b.leaves k) (sym (f.labels k) ∙ at);
}

pub place_fetches : (p : Params) (book_old book_new : List (Option Entry)) (old mid new : Buckets) (before middle now : Planned) (ask : Option ℕ) (own : Entry) (found : Option Found) (leaf : ℕ) → IsBook p book_old → own.leaf < 2 ^ p.levels → IsFetched p
    book_old book_new old mid ask own found → leaf ≡ leaf_of_place (kept_of book_old ask) own →
    middle ≡ record before { places = before.places ++ record { leaf = leaf; first = length before.jobs } ∷ [] } → now.places ≡ middle.places →
    Plans p mid new middle now (λ t. visits_picked p t ask (spot_at found) (path p leaf)) (λ t. visits p t (spot_at found) (path p leaf)) → Fetches p book_old book_new old new before now ((ask, own) ∷ [])
place_fetches p book_old book_new old mid new before middle now ask own found leaf book low f at pushed kept plans =
    let spot : (c : ℕ) (t : FlatTable) → IsOrderly p t → IsTableOf p (arrays_of old (rest_of book_old c)) t → spot_at found ≡ spot_of (asked_row t ask) = λ c t o is. sym (fetched_spot p old book_old c t ask found o.sound is f.found) in
    let shown : (c : ℕ) (t : FlatTable) → IsTableOf p (arrays_of old (rest_of book_old c)) t → leaf ≡ leaf_shown t ask own.leaf = λ c t is. at ∙ sym (shown_leaf p old book_old c t ask own is) in
    record {
      book = book_fetched p book_old book_new old mid ask own found book low f;
      whole = plans.whole;
      seals = seals_then old mid new (f.taken).seals plans.seals;
      labels = f.labels;
      follows = λ c t o is. subst (λ (x : FlatTable). IsTableOf p (arrays_of new (rest_of book_new c)) x)
          (λ i. visits p (fetch t ask own.leaf) (spot c t o is i) (path p (shown c t is i)))
          (plans.follows (rest_of book_new c) (fetch t ask own.leaf) (fetched_is p book_old book_new old mid ask own found c t f o.sound is));
      jobs = λ c t o is. plans.jobs (rest_of book_new c) (fetch t ask own.leaf) (fetched_is p book_old book_new old mid ask own found c t f o.sound is)
          ∙ (λ i. (pushed i).jobs ++ map (job_same p old mid (f.taken).seals i) (visits_picked p (fetch t ask own.leaf) ask (spot c t o is i) (path p (shown c t is i))))
          ∙ ap (λ (qs : List Picked). before.jobs ++ map (job_of p old.versions) qs) (sym (append_none (place_picked p t ask own.leaf)));
      places = λ c t o is. kept ∙ ap (λ (s : Planned). s.places) pushed ∙ (λ i. before.places ++ record { leaf = shown c t is i; first = length before.jobs } ∷ []);
    }

-- ---- places one after another

pub orderly_place : (p : Params) (t : FlatTable) (places : List (Option ℕ × ℕ)) → IsOrderly p t → IsOrderly p (after_batch p t places)
orderly_place p t places o = steps_keep_order p t (Batch places) o

pub after_both : (p : Params) (t : FlatTable) (xs ys : List (Option ℕ × ℕ)) → after_batch p t (xs ++ ys) ≡ after_batch p (after_batch p t xs) ys
after_both p t [] ys = refl
after_both p t (x ∷ xs) ys = after_both p (after_place p t x.0 x.1) xs ys

pub picked_both : (p : Params) (t : FlatTable) (xs ys : List (Option ℕ × ℕ)) → batch_picked p t (xs ++ ys) ≡ batch_picked p t xs ++ batch_picked p (after_batch p t xs) ys
picked_both p t [] ys = refl
picked_both p t (x ∷ xs) ys = ap (λ (qs : List Picked). place_picked p t x.0 x.1 ++ qs) (picked_both p (after_place p t x.0 x.1) xs ys) ∙ sym (append_more (place_picked p t x.0 x.1) (batch_picked p (after_place p t x.0 x.1) xs) (batch_picked p (after_batch p (after_place p t x.0 x.1) xs) ys))

pub places_both : (p : Params) (n : ℕ) (t : FlatTable) (xs ys : List (Option ℕ × ℕ)) → places_from p n t (xs ++ ys) ≡ places_from p n t xs ++ places_from p (n + length (batch_picked p t xs)) (after_batch p t xs) ys
places_both p n t [] ys = let z : n ≡ n + 0 = omega arith in ap (λ (m : ℕ). places_from p m t ys) z
places_both p n t (x ∷ xs) ys =
    let m : ℕ = length (place_picked p t x.0 x.1) in
    let e : (n + m) + length (batch_picked p (after_place p t x.0 x.1) xs) ≡ n + length (place_picked p t x.0 x.1 ++ batch_picked p (after_place p t x.0 x.1) xs) = omega (arith, length-append (place_picked p t x.0 x.1) (batch_picked p (after_place p t x.0 x.1) xs)) in
    ap (λ (ps : List Place). record { leaf = leaf_shown t x.0 x.1; first = n } ∷ ps)
    (places_both p (n + m) (after_place p t x.0 x.1) xs ys ∙ ap (λ (k : ℕ). places_from p (n + m) (after_place p t x.0 x.1) xs ++ places_from p k (after_batch p (after_place p t x.0 x.1) xs) ys) e)

pub labels_both : (book : ℕ → Option Entry) (xs ys : List (Option ℕ × Entry)) → after_labels book (xs ++ ys) ≡ after_labels (after_labels book xs) ys
labels_both book [] ys = refl
labels_both book (x ∷ xs) ys = labels_both (after_label book x.0 x.1) xs ys

length-jobs : (p : Params) (s : Buckets) (before now : Planned) (qs : List Picked) → now.jobs ≡ before.jobs ++ map (job_of p s.versions) qs → length now.jobs ≡ length before.jobs + length qs
length-jobs p s before now qs e = ap length e ∙ length-append before.jobs (map (job_of p s.versions) qs) ∙ ap (λ (n : ℕ). length before.jobs + n) (length-mapped (job_of p s.versions) qs)
  where
    length-mapped : (f : Picked → Job) (xs : List Picked) → length (map f xs) ≡ length xs
    length-mapped f [] = refl
    length-mapped f (x ∷ xs) = ap suc (length-mapped f xs)

pub fetches_then : (p : Params) (book_old book_mid book_new : List (Option Entry)) (old mid new : Buckets) (before middle now : Planned) (xs ys : List (Option ℕ × Entry)) → Fetches p book_old book_mid old mid before middle xs → Fetches p book_mid book_new mid
    new middle now ys → Fetches p book_old book_new old new before now (xs ++ ys)
fetches_then p book_old book_mid book_new old mid new before middle now xs ys a b =
    let split : leaf_places (xs ++ ys) ≡ leaf_places xs ++ leaf_places ys = map-both (λ x. (x.0, (x.1).leaf)) xs ys in
    record {
      book = b.book;
      whole = b.whole;
      seals = seals_then old mid new a.seals b.seals;
      labels = λ k. b.labels k ∙ (λ i. after_labels (λ j. a.labels j i) ys k) ∙ sym (ap (λ (f : ℕ → Option Entry). f k) (labels_both (λ i. entry_at book_old i) xs ys));
      follows = λ c t o is. subst (λ (x : FlatTable). IsTableOf p (arrays_of new (rest_of book_new c)) x)
          (sym (ap (after_batch p t) split ∙ after_both p t (leaf_places xs) (leaf_places ys)))
          (b.follows c (after_batch p t (leaf_places xs)) (orderly_place p t (leaf_places xs) o) (a.follows c t o is));
      jobs = λ c t o is. b.jobs c (after_batch p t (leaf_places xs)) (orderly_place p t (leaf_places xs) o) (a.follows c t o is)
          ∙ (λ i. a.jobs c t o is i ++ map (job_same p old mid a.seals i) (batch_picked p (after_batch p t (leaf_places xs)) (leaf_places ys)))
          ∙ append_more before.jobs (map (job_of p old.versions) (batch_picked p t (leaf_places xs))) (map (job_of p old.versions) (batch_picked p (after_batch p t (leaf_places xs)) (leaf_places ys)))
          ∙ ap (λ (js : List Job). before.jobs ++ js) (sym (map-both (job_of p old.versions) (batch_picked p t (leaf_places xs)) (batch_picked p (after_batch p t (leaf_places xs)) (leaf_places ys))))
          ∙ ap (λ (qs : List Picked). before.jobs ++ map (job_of p old.versions) qs) (sym (ap (batch_picked p t) split ∙ picked_both p t (leaf_places xs) (leaf_places ys)));
      places = λ c t o is. b.places c (after_batch p t (leaf_places xs)) (orderly_place p t (leaf_places xs) o) (a.follows c t o is)
          ∙ (λ i. a.places c t o is i ++ places_from p (length-jobs p old before middle (batch_picked p t (leaf_places xs)) (a.jobs c t o is) i) (after_batch p t (leaf_places xs)) (leaf_places ys))
          ∙ append_more before.places (places_from p (length before.jobs) t (leaf_places xs)) (places_from p (length before.jobs + length (batch_picked p t (leaf_places xs))) (after_batch p t (leaf_places xs)) (leaf_places ys))
          ∙ ap (λ (ps : List Place). before.places ++ ps) (sym (ap (places_from p (length before.jobs) t) split ∙ places_both p (length before.jobs) t (leaf_places xs) (leaf_places ys)));
    }
