-- Content that obeys stands for an orderly table.
use Rattle.std.specs.Prelude.{◌≡◌, ℕ, ◌+◌, ◌<◌, ◌≤◌, Bool, true, false, cond, List, [], ◌∷◌, length, replicate, Option, slice_index_or}
use Rattle.std.specs.declared.option.Option.TheVariants.{None, Some}
use Rattle.std.specs.List.{find, fold, count_by, range_with_len}
use Rattle.std.proofs.Common.{zero, suc, arith, refl, sym, ap, ◌∙◌, inl, inr}
use Rattle.std.proofs.lemmas.Bool.{false≢true, cases_lt}
use Rattle.ob_base.specs.declared.params.Params.{Params}
use Rattle.ob_base.specs.Tree.{buckets, below, passes}
use Rattle.ob_tables.specs.Version.{Version, key_at, used_at, live_index}
use Rattle.ob_tables.specs.Buckets.{version_at, no_version}
use Rattle.ob_tables.specs.declared.entry.Entry.{Entry}
use Rattle.ob_tables.specs.Kept.{entry_at}
use Rattle.ob_ring.specs.FlatTable.{Spot, In, spot_of, leaf_of, reads, indexes}
use Rattle.ob_ring.specs.Arrays.{leaf_in, leaf_of_entry}
use Rattle.ob_ring.proofs.PathLaws.{IsFirst, find_some, find_none, found_live, none_live}
use Rattle.ob_ring.proofs.TableLaws.{none_counted}
use Rattle.ob_tables.specs.Content.{Content, Obeys, IsKeyOf, content_of}
use Rattle.ob_stand.specs.Takes.{is_present}
use Rattle.ob_stand.proofs.Planned.{past_none}
use Rattle.ob_stand.specs.Table.{IsTableOfContent, RingsStand, TablesAreRead, spot_in, spot_among, lying_place, row_for, flat_of}

-- a key's bucket is one of the tree, and its index a real one
key_within : (p : Params) (c : Content) (u j k : ℕ) → Obeys p c → key_at (version_at c.versions u) j ≡ Some k → (u < buckets p) × (j < p.real)
key_within p c u j k o e = elim (cases_lt u (buckets p)) [
  | inl low ↦ elim (cases_lt j p.real) [
    | inl real ↦ (low, real)
    | inr high ↦ absurd (let many : length (version_at c.versions u).keys ≡ p.real = ((o.versions u low).slots).keys in
        none_is k (key_at (version_at c.versions u) j) (past_none (version_at c.versions u).keys None j (omega arith)) e)
  ]
  | inr high ↦ absurd (let out : version_at c.versions u ≡ no_version = past_none c.versions no_version u (omega (arith, o.many)) in
      none_is k (key_at (version_at c.versions u) j) (ap (λ (v : Version). key_at v j) out) e)
]
  where
    none_is : (k : ℕ) (o : Option ℕ) → o ≡ None → o ≡ Some k → ⊥
    none_is k o e f = absurd (cc)

-- ---- where a key lies

spot_found : (versions : List Version) (k u j v : ℕ) (o : Option ℕ) → live_index (version_at versions u) k ≡ o → spot_in u o ≡ In v j → (u ≡ v) × (live_index (version_at versions v) k ≡ Some j)
spot_found versions k u j v None e f = absurd (cc)
spot_found versions k u j v (Some i) e f =
    let a : u ≡ v = cc in
    let b : i ≡ j = cc in
    (a, ap (λ x. live_index (version_at versions x) k) (sym a) ∙ e ∙ ap (λ (x : ℕ). Some x) b)

among_found : (versions : List Version) (k v j : ℕ) (o : Option ℕ) → spot_among versions k o ≡ In v j → key_at (version_at versions v) j ≡ Some k
among_found versions k v j None e = absurd (cc)
among_found versions k v j (Some u) e = (found_live (version_at versions v) k j (spot_found versions k u j v (live_index (version_at versions u) k) refl e).1).1

-- a key that is said to lie in a bucket does
pub place_holds : (p : Params) (versions : List Version) (k v j : ℕ) → lying_place p versions k ≡ In v j → key_at (version_at versions v) j ≡ Some k
place_holds p versions k v j e = among_found versions k v j (find (λ u. is_present (live_index (version_at versions u) k)) (below (buckets p))) e

pub row_spot : (o : Option Entry) (s : Spot) (u j : ℕ) → spot_of (row_for o s) ≡ In u j → s ≡ In u j
row_spot None s u j e = absurd (cc)
row_spot (Some e) s u j f = f

pub holds : (p : Params) (c : Content) (k u j : ℕ) → spot_of ((flat_of p c).rows k) ≡ In u j → key_at (version_at c.versions u) j ≡ Some k
holds p c k u j e = place_holds p c.versions k u j (row_spot (entry_at c.book k) (lying_place p c.versions k) u j e)

live_some : (v : Version) (k j : ℕ) (o : Option ℕ) → live_index v k ≡ o → key_at v j ≡ Some k → is_present o ≡ true
live_some v k j None e at = absurd (none_live v k j e at)
live_some v k j (Some i) e at = refl

live_at : (p : Params) (c : Content) (k u v j : ℕ) (o : Option ℕ) → Obeys p c → key_at (version_at c.versions u) j ≡ Some k → live_index (version_at c.versions v) k ≡ o → is_present o ≡ true → spot_in v o ≡ In u j
live_at p c k u v j None o at e on = absurd (false≢true on)
live_at p c k u v j (Some i) o at e on =
    let there : key_at (version_at c.versions v) i ≡ Some k = (found_live (version_at c.versions v) k i e).1 in
    let same : (v ≡ u) × (i ≡ j) = o.once k v u i j there at in
    λ n. In (same.0 n) (same.1 n)

found_case : (p : Params) (c : Content) (k u j : ℕ) (o : Option ℕ) → Obeys p c → key_at (version_at c.versions u) j ≡ Some k → find (λ v. is_present (live_index (version_at c.versions v) k)) (below (buckets p)) ≡ o → spot_among c.versions k o ≡ In u j
found_case p c k u j None o at e = absurd (let low : u < buckets p = (key_within p c u j k o at).0 in
    find_none (λ v. is_present (live_index (version_at c.versions v) k)) 0 (buckets p) u e (omega arith) (omega arith) (live_some (version_at c.versions u) k j (live_index (version_at c.versions u) k) refl at))
found_case p c k u j (Some v) o at e =
    let first : IsFirst (λ v. is_present (live_index (version_at c.versions v) k)) 0 (buckets p) v = find_some (λ v. is_present (live_index (version_at c.versions v) k)) 0 (buckets p) v e in
    live_at p c k u v j (live_index (version_at c.versions v) k) o at refl first.on

pub held : (p : Params) (c : Content) (k u j : ℕ) → Obeys p c → key_at (version_at c.versions u) j ≡ Some k → lying_place p c.versions k ≡ In u j
held p c k u j o at = found_case p c k u j (find (λ v. is_present (live_index (version_at c.versions v) k)) (below (buckets p))) o at refl

row_of_some : (o : Option Entry) (e : Entry) (s : Spot) (u j : ℕ) → o ≡ Some e → s ≡ In u j → (spot_of (row_for o s) ≡ In u j) × (leaf_of (row_for o s) 0 ≡ e.leaf)
row_of_some None e s u j is at = absurd (cc)
row_of_some (Some x) e s u j is at = (at, (let same : x ≡ e = cc in ap (λ (y : Entry). y.leaf) same))

row_leaf : (o : Option Entry) (s : Spot) → leaf_in (row_for o s) ≡ leaf_of_entry o
row_leaf None s = refl
row_leaf (Some e) s = refl

-- ---- counts

counted_from : (g : ℕ → Bool) (a n : ℕ) (xs : List Bool) → ((i : ℕ) → i < length xs → g (a + i) ≡ slice_index_or xs i false) → fold (λ m j. m + cond (g j) 1 0) n (range_with_len a (length xs)) ≡ fold (λ m b. m + cond b 1 0) n xs
counted_from g a n [] h = refl
counted_from g a n (x ∷ xs) h =
    let zeroth : a ≡ a + 0 = omega arith in
    let here : g a ≡ x = ap g zeroth ∙ h 0 (omega arith) in
    counted_from g (a + 1) (n + cond (g a) 1 0) xs (λ i low. (let next : (a + 1) + i ≡ a + suc i = omega arith in ap g next ∙ h (suc i) (omega arith)))
    ∙ ap (λ (b : Bool). fold (λ m b. m + cond b 1 0) (n + cond b 1 0) xs) here

pub counted : (used : List Bool) → count_by (λ j. slice_index_or used j false) (range_with_len 0 (length used)) ≡ count_by (λ b. b) used
counted used = counted_from (λ j. slice_index_or used j false) 0 0 used (λ i h. (let z : 0 + i ≡ i = omega arith in ap (λ (n : ℕ). slice_index_or used n false) z))

reads_few : (p : Params) (c : Content) (u : ℕ) → Obeys p c → reads p (flat_of p c) u < p.dummies
reads_few p c u o = elim (cases_lt u (buckets p)) [
  | inl low ↦ (let v : Version = version_at c.versions u in
      let ob = o.versions u low in
      let many : p.real + p.dummies ≡ length v.used = sym (ob.slots).used in
      let e : reads p (flat_of p c) u ≡ count_by (λ b. b) v.used = ap (λ (n : ℕ). count_by (used_at v) (range_with_len 0 n)) many ∙ counted v.used in
      let few : count_by (λ b. b) v.used < p.dummies = (ob.marks).few in
      omega arith)
  | inr high ↦ (let out : version_at c.versions u ≡ no_version = past_none c.versions no_version u (omega (arith, o.many)) in
      let e : reads p (flat_of p c) u ≡ 0 = ap (λ (v : Version). count_by (used_at v) (indexes p)) out ∙ none_counted (p.real + p.dummies) in
      let some : 1 ≤ p.dummies = (p.in_range).some_dummies in
      omega arith)
]

no_marks : count_by {X = Bool} (λ b. b) [] ≡ 0
no_marks = refl

-- a bucket was read as often as indexes of its version are marked
pub reads_are_marks : (p : Params) (c : Content) (u : ℕ) → Obeys p c → reads p (flat_of p c) u ≡ count_by (λ b. b) (version_at c.versions u).used
reads_are_marks p c u o = elim (cases_lt u (buckets p)) [
  | inl low ↦ (let v : Version = version_at c.versions u in
      let many : p.real + p.dummies ≡ length v.used = sym ((o.versions u low).slots).used in
      ap (λ (n : ℕ). count_by (used_at v) (range_with_len 0 n)) many ∙ counted v.used)
  | inr high ↦ (let out : version_at c.versions u ≡ no_version = past_none c.versions no_version u (omega (arith, o.many)) in
      ap (λ (v : Version). count_by (used_at v) (indexes p)) out ∙ none_counted (p.real + p.dummies) ∙ sym (ap (λ (v : Version). count_by (λ b. b) v.used) out))
]

pub tables_are_read : TablesAreRead
tables_are_read p c o = record {
  orderly = record {
    sound = record {
      placed = λ k u j e. (let at : key_at (version_at c.versions u) j ≡ Some k = holds p c k u j e in
          let low : (u < buckets p) × (j < p.real) = key_within p c u j k o at in
          let key : IsKeyOf p c.book u k = o.keys u j k at in
          record {
            real = low.1;
            on_path = ap (passes p u) (row_of_some (entry_at c.book k) key.entry (lying_place p c.versions k) u j key.kept (held p c k u j o at)).1 ∙ key.on_path;
            unread = ((o.versions u low.0).marks).unshown j k at;
            standing = refl;
          });
      alone = λ k l u j e f. same_some (key_at (version_at c.versions u) j) k l (holds p c k u j e) (holds p c l u j f);
    };
    few = λ u down. reads_few p c u o;
  };
  arrays = record {
    keys_low = λ k x e. elim (cases_lt k p.keys) [
      | inl low ↦ low
      | inr high ↦ absurd (no_leaf x (sym (ap leaf_of_entry (past_none c.book None k (omega (arith, (o.book).many)))) ∙ e))
    ];
    leaves_are = λ k. row_leaf (entry_at c.book k) (lying_place p c.versions k);
    spots_are = λ k u j. ((λ e. holds p c k u j e), (λ at. (let key : IsKeyOf p c.book u k = o.keys u j k at in (row_of_some (entry_at c.book k) key.entry (lying_place p c.versions k) u j key.kept (held p c k u j o at)).0)));
    used_is = λ u j. refl;
    lifted_is = λ u. none_lifted (buckets p) u;
    counter_is = refl;
  };
}
  where
    same_some : (o : Option ℕ) (a b : ℕ) → o ≡ Some a → o ≡ Some b → a ≡ b
    same_some o a b e f = cc

    no_leaf : (x : ℕ) → None ≡ Some x → ⊥
    no_leaf x e = cc

    none_lifted : (n u : ℕ) → false ≡ slice_index_or (replicate n false) u false
    none_lifted zero u = refl
    none_lifted (suc n) zero = refl
    none_lifted (suc n) (suc u) = none_lifted n u

-- a ring that is made of the tables
pub rings_stand : RingsStand
rings_stand p tables o down =
    let r : IsTableOfContent p (content_of tables) = tables_are_read p (content_of tables) o in
    record {
      orderly = r.orderly;
      arrays = record {
        keys_low = (r.arrays).keys_low;
        leaves_are = (r.arrays).leaves_are;
        spots_are = (r.arrays).spots_are;
        used_is = (r.arrays).used_is;
        lifted_is = λ u. sym (down u);
        counter_is = (r.arrays).counter_is;
      };
    }
