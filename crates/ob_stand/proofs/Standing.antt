-- Content and table, with the map's values.
use Rattle.std.specs.Prelude.{◌≡◌, ◌≢◌, ℕ, ◌<◌, ◌≤◌, true, false, List, length, Option}
use Rattle.std.specs.declared.option.Option.TheVariants.{None, Some}
use Rattle.std.specs.List.{count_by, range_with_len}
use Rattle.std.specs.FinMap as finite
use Rattle.std.proofs.Common.{arith, refl, sym, ap, ◌∙◌, subst, inl, inr, ◌⊎◌}
use Rattle.std.proofs.lemmas.Bool.{true≢false, false≢true, cases_lt}
use Rattle.ob_base.specs.declared.params.Params.{Params}
use Rattle.ob_base.specs.Tree.{buckets, passes}
use Rattle.ob_tables.specs.Version.{Version, key_at, used_at}
use Rattle.ob_tables.specs.Buckets.{Buckets, version_at}
use Rattle.ob_tables.specs.declared.entry.Entry.{Entry}
use Rattle.ob_tables.specs.Kept.{entry_at}
use Rattle.ob_ring.specs.FlatTable.{FlatTable, Row, Spot, InStash, In, spot_of, leaf_of, reads}
use Rattle.ob_ring.specs.Arrays.{IsTableOf, arrays_of, rest_of, leaf_in, leaf_of_entry}
use Rattle.ob_ring.specs.Settling.{Rows}
use Rattle.ob_ring.specs.Laws.{IsOrderly}
use Rattle.ob_ring.proofs.TableOf.{reads_are}
use Rattle.ob_tables.specs.Content.{Content, Obeys, IsLoose}
use Rattle.ob_tables.specs.Spelling.{slot_bytes}
use Rattle.ob_stand.specs.Takes.{is_present}
use Rattle.ob_stand.specs.Values.{Values}
use Rattle.ob_stand.specs.Carries.{Carries}
use Rattle.ob_stand.proofs.Planned.{past_none}
use Rattle.ob_stand.specs.Table.{lying_place, row_for, flat_of}
use Rattle.ob_stand.specs.Valued.{IsSlotOf, IsValued, ContentsCarry, content_with, AreTablesFilled, TablesObey}
use Rattle.ob_stand.proofs.Reading.{holds, held, counted}
use Rattle.ob_stand.proofs.Refilling.{stash_not}
use Rattle.ob_stand.proofs.Taking.{present_at}

none_some : {X : Type 0} (o : Option X) (x : X) → o ≡ None → o ≡ Some x → ⊥
none_some o x e f = absurd (cc)

some_of : {X : Type 0} (o : Option X) → o ≢ None → (x : X) × (o ≡ Some x)
some_of None h = absurd (h refl)
some_of (Some x) h = (x, refl)

none_of : {X : Type 0} (o : Option X) → ((x : X) → o ≢ Some x) → o ≡ None
none_of None h = refl
none_of (Some x) h = absurd (h x refl)

some_not : {X : Type 0} (o : Option X) (x : X) → o ≡ Some x → o ≢ None
some_not o x e f = none_some o x f e

-- ---- a key of the content

record IsPlaced (c : Content) (k : ℕ) : Type 0 where
  bucket : ℕ
  index : ℕ
  at : key_at (version_at c.versions bucket) index ≡ Some k

record IsStashed (p : Params) (c : Content) (k : ℕ) : Type 0 where
  value : List ℕ
  row : finite.get c.rows k ≡ Some value

record IsAbsent (c : Content) (k : ℕ) : Type 0 where
  entry : entry_at c.book k ≡ None
  row : finite.get c.rows k ≡ None

spot_cases : (s : Spot) → (s ≡ InStash) ⊎ ((u : ℕ) × (j : ℕ) × (s ≡ In u j))
spot_cases InStash = inl refl
spot_cases (In u j) = inr (u, j, refl)

entry_cases : (o : Option Entry) → (o ≡ None) ⊎ ((e : Entry) × (o ≡ Some e))
entry_cases None = inl refl
entry_cases (Some e) = inr (e, refl)

-- the row of a key, by the entry
row_none : (o : Option Entry) (s : Spot) → o ≡ None → row_for o s ≡ None
row_none o s e = ap (λ x. row_for x s) e

row_some : (o : Option Entry) (e : Entry) (s : Spot) → o ≡ Some e → row_for o s ≡ Some (record { leaf = e.leaf; spot = s })
row_some o e s is = ap (λ x. row_for x s) is

absent_of : (p : Params) (c : Content) (k : ℕ) → Obeys p c → entry_at c.book k ≡ None → IsAbsent c k
absent_of p c k o e = record { entry = e; row = none_of (finite.get c.rows k) (λ v f. ((o.stash k).0 (some_not (finite.get c.rows k) v f)).0 e) }

loose_of : (p : Params) (c : Content) (k : ℕ) → Obeys p c → lying_place p c.versions k ≡ InStash → IsLoose c.versions k
loose_of p c k o e u j at = stash_not (lying_place p c.versions k) u j e (held p c k u j o at)

stashed_of : (p : Params) (c : Content) (k : ℕ) (e : Entry) → Obeys p c → entry_at c.book k ≡ Some e → lying_place p c.versions k ≡ InStash → IsStashed p c k
stashed_of p c k e o is at = let s : (v : List ℕ) × (finite.get c.rows k ≡ Some v) = some_of (finite.get c.rows k) ((o.stash k).1 (some_not (entry_at c.book k) e is, loose_of p c k o at)) in record { value = s.0; row = s.1 }

placed_rowless : (p : Params) (c : Content) (k u j : ℕ) → Obeys p c → key_at (version_at c.versions u) j ≡ Some k → finite.get c.rows k ≡ None
placed_rowless p c k u j o at = none_of (finite.get c.rows k) (λ v f. ((o.stash k).0 (some_not (finite.get c.rows k) v f)).1 u j at)

same_value : (o : Option (List ℕ)) (v w : List ℕ) → o ≡ Some v → o ≡ Some w → v ≡ w
same_value o v w e f = cc

-- ---- the table carries the map

record KeyCarried (p : Params) (c : Content) (slots : ℕ → ℕ → List ℕ) (m : Values) (k : ℕ) : Type 0 where
  keys : is_present ((flat_of p c).rows k) ≡ is_present (m k)
  short : (value : List ℕ) → m k ≡ Some value → length value ≤ 64
  stash : spot_of ((flat_of p c).rows k) ≡ InStash → finite.get c.rows k ≡ m k

key_carried : (p : Params) (c : Content) (slots : ℕ → ℕ → List ℕ) (m : Values) (k : ℕ) → Obeys p c → IsValued c slots m → KeyCarried p c slots m k
key_carried p c slots m k o v = elim (entry_cases (entry_at c.book k)) [
  | inl none ↦ (let a : IsAbsent c k = absent_of p c k o none in
      record {
        keys = ap is_present (row_none (entry_at c.book k) (lying_place p c.versions k) none) ∙ sym (ap is_present (v.absent k none));
        short = λ value e. absurd (none_some (m k) value (v.absent k none) e);
        stash = λ e. a.row ∙ sym (v.absent k none);
      })
  | inr some ↦ elim (spot_cases (lying_place p c.versions k)) [
    | inl out ↦ (let s : IsStashed p c k = stashed_of p c k some.0 o some.1 out in
        let is : m k ≡ Some s.value = v.rows k s.value s.row in
        record {
          keys = ap is_present (row_some (entry_at c.book k) some.0 (lying_place p c.versions k) some.1) ∙ sym (ap is_present is);
          short = λ value e. o.short k value (s.row ∙ sym is ∙ e);
          stash = λ e. s.row ∙ sym is;
        })
    | inr there ↦ (let row : (flat_of p c).rows k ≡ Some (record { leaf = (some.0).leaf; spot = lying_place p c.versions k }) = row_some (entry_at c.book k) some.0 (lying_place p c.versions k) some.1 in
        let spot : spot_of ((flat_of p c).rows k) ≡ In there.0 there.1 = ap spot_of row ∙ there.2 in
        let slot : IsSlotOf slots m there.0 there.1 k = v.slots_are there.0 there.1 k (holds p c k there.0 there.1 spot) in
        record {
          keys = ap is_present row ∙ sym (ap is_present slot.is);
          short = λ value e. (let same : slot.value ≡ value = same_value (m k) slot.value value slot.is e in subst (λ (x : List ℕ). length x ≤ 64) same slot.short);
          stash = λ e. absurd (stash_not (spot_of ((flat_of p c).rows k)) there.0 there.1 e spot);
        })
  ]
]

pub contents_carry : ContentsCarry
contents_carry p c slots m o v = record {
  low = λ k e. elim (cases_lt k p.keys) [
    | inl low ↦ low
    | inr high ↦ absurd (let out : entry_at c.book k ≡ None = past_none c.book None k (omega (arith, (o.book).many)) in
        true≢false (sym e ∙ ap is_present (row_none (entry_at c.book k) (lying_place p c.versions k) out)))
  ];
  keys = λ k. (key_carried p c slots m k o v).keys;
  short = λ k. (key_carried p c slots m k o v).short;
  held = λ k. (key_carried p c slots m k o v).stash;
  others = λ k u j e. placed_rowless p c k u j o (holds p c k u j e);
  placed = λ k u j value e is. (let slot : IsSlotOf slots m u j k = v.slots_are u j k (holds p c k u j e) in
      let same : slot.value ≡ value = same_value (m k) slot.value value slot.is is in
      slot.spelled ∙ ap (slot_bytes k) same);
}

-- ---- the tables of an end obey

same_present : (r : Option Row) (o : Option Entry) → leaf_in r ≡ leaf_of_entry o → is_present r ≡ is_present o
same_present None None e = refl
same_present None (Some x) e = absurd (cc)
same_present (Some r) None e = absurd (cc)
same_present (Some r) (Some x) e = refl

present_some : {X : Type 0} (o : Option X) → is_present o ≡ true → (x : X) × (o ≡ Some x)
present_some None e = absurd (false≢true e)
present_some (Some x) e = (x, refl)

absent_none : {X : Type 0} (o : Option X) → is_present o ≡ false → o ≡ None
absent_none None e = refl
absent_none (Some x) e = absurd (true≢false e)

some_present : {X : Type 0} (o : Option X) (x : X) → o ≡ Some x → is_present o ≡ true
some_present None x e = absurd (cc)
some_present (Some y) x e = refl

leaf_same : (r : Option Row) (o : Option Entry) (e : Entry) → leaf_in r ≡ leaf_of_entry o → o ≡ Some e → leaf_of r 0 ≡ e.leaf
leaf_same None None e same is = absurd (cc)
leaf_same None (Some x) e same is = absurd (cc)
leaf_same (Some r) None e same is = absurd (cc)
leaf_same (Some r) (Some x) e same is = let a : x ≡ e = cc in let b : r.leaf ≡ x.leaf = cc in b ∙ ap (λ (y : Entry). y.leaf) a

two_spots : (s : Spot) (u j v i : ℕ) → s ≡ In u j → s ≡ In v i → (u ≡ v) × (j ≡ i)
two_spots s u j v i e f = let x : In u j ≡ In v i = sym e ∙ f in ((cc), (cc))

module _ (p : Params) (s : Buckets) (book : List (Option Entry)) (rows : Rows) (counter : ℕ) (t : FlatTable) (slots : ℕ → ℕ → List ℕ) (m : Values) (o : IsOrderly p t) (is : IsTableOf p (arrays_of s (rest_of book counter)) t) (c : Carries p t rows slots m)
    (f : AreTablesFilled p s book rows counter t) where
  present_is : (k : ℕ) → is_present (t.rows k) ≡ is_present (entry_at book k)
  present_is k = same_present (t.rows k) (entry_at book k) (is.leaves_are k)

  -- a row of the stash is of a key that lies in no bucket
  row_stash : (k : ℕ) (v : List ℕ) → finite.get rows k ≡ Some v → spot_of (t.rows k) ≡ InStash
  row_stash k v e = elim (spot_cases (spot_of (t.rows k))) [
    | inl out ↦ out
    | inr there ↦ absurd (none_some (finite.get rows k) v (c.others k there.0 there.1 there.2) e)
  ]

  row_value_is : (k : ℕ) (v : List ℕ) → finite.get rows k ≡ Some v → m k ≡ Some v
  row_value_is k v e = sym (c.held k (row_stash k v e)) ∙ e

  entry_there : (u j k : ℕ) → key_at (version_at s.versions u) j ≡ Some k → (e : Entry) × (entry_at book k ≡ Some e)
  entry_there u j k at = present_some (entry_at book k) (sym (present_is k) ∙ present_at (t.rows k) u j ((is.spots_are k u j).1 at))

  few_marks : (u : ℕ) → u < buckets p → count_by (λ b. b) (version_at s.versions u).used < p.dummies
  few_marks u low =
      let v : Version = version_at s.versions u in
      let many : reads p t u ≡ count_by (used_at v) (range_with_len 0 (length v.used)) = reads_are p (arrays_of s (rest_of book counter)) t u v is (record { keys = λ j. refl; used = λ j. refl }) (f.whole.slots u low) in
      let same : count_by (used_at v) (range_with_len 0 (length v.used)) ≡ count_by (λ b. b) v.used = counted v.used in
      let few : reads p t u < p.dummies = o.few u (f.standing u) in
      omega arith

  stash_to : (k : ℕ) → finite.get rows k ≢ None → (entry_at book k ≢ None) × IsLoose s.versions k
  stash_to k some =
      let v : (x : List ℕ) × (finite.get rows k ≡ Some x) = some_of (finite.get rows k) some in
      let value : m k ≡ Some v.0 = row_value_is k v.0 v.1 in
      let here : is_present (entry_at book k) ≡ true = sym (present_is k) ∙ c.keys k ∙ some_present (m k) v.0 value in (
        (λ e. true≢false (sym here ∙ ap is_present e)),
        (λ u j at. stash_not (spot_of (t.rows k)) u j (row_stash k v.0 v.1) ((is.spots_are k u j).1 at)),
      )

  stash_from : (k : ℕ) → (entry_at book k ≢ None) × IsLoose s.versions k → finite.get rows k ≢ None
  stash_from k h none = elim (spot_cases (spot_of (t.rows k))) [
    | inl out ↦ (let e : (x : Entry) × (entry_at book k ≡ Some x) = some_of (entry_at book k) h.0 in
        let here : is_present (m k) ≡ true = sym (c.keys k) ∙ present_is k ∙ some_present (entry_at book k) e.0 e.1 in
        true≢false (sym here ∙ ap is_present (sym (c.held k out) ∙ none)))
    | inr there ↦ h.1 there.0 there.1 ((is.spots_are k there.0 there.1).0 there.2)
  ]

  pub obeys_then : Obeys p (content_with s book rows counter)
  obeys_then = record {
    counter = f.low;
    book = f.book_fits;
    many = f.whole.many;
    versions = λ u low. record {
      slots = f.whole.slots u low;
      home = (f.versions u low).home;
      ranks = (f.versions u low).ranks;
      marks = record {
        unshown = λ j k at. sym (is.used_is u j) ∙ ((o.sound).placed k u j ((is.spots_are k u j).1 at)).unread;
        few = few_marks u low;
      };
    };
    keys = λ u j k at. (let e : (x : Entry) × (entry_at book k ≡ Some x) = entry_there u j k at in
        record {
          entry = e.0;
          kept = e.1;
          on_path = sym (ap (passes p u) (leaf_same (t.rows k) (entry_at book k) e.0 (is.leaves_are k) e.1)) ∙ ((o.sound).placed k u j ((is.spots_are k u j).1 at)).on_path;
        });
    seals = f.seals;
    once = λ k u v i j a b. two_spots (spot_of (t.rows k)) u i v j ((is.spots_are k u i).1 a) ((is.spots_are k v j).1 b);
    stash = λ k. ((λ some. stash_to k some), (λ h. stash_from k h));
    short = λ k value e. c.short k value (row_value_is k value e);
    few = f.few;
  }

  pub valued_then : IsValued (content_with s book rows counter) slots m
  valued_then = record {
    absent = λ k e. absent_none (m k) (sym (c.keys k) ∙ present_is k ∙ ap is_present e);
    rows = λ k value e. row_value_is k value e;
    slots_are = λ u j k at. (let spot : spot_of (t.rows k) ≡ In u j = (is.spots_are k u j).1 at in
        let v : (x : List ℕ) × (m k ≡ Some x) = present_some (m k) (sym (c.keys k) ∙ present_at (t.rows k) u j spot) in
        record { value = v.0; is = v.1; spelled = c.placed k u j v.0 spot v.1; short = c.short k v.0 v.1 });
  }

pub tables_obey : TablesObey
tables_obey p s book rows counter t slots m o is c f = record { obeys = obeys_then p s book rows counter t slots m o is c f; valued = valued_then p s book rows counter t slots m o is c f }
