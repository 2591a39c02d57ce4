-- Where a life has it, the content obeys, and its table is the life's.
use Rattle.std.specs.Prelude.{◌≡◌, ℕ, ◌+◌, ◌^◌, ◌<◌, ◌≤◌, ◌==◌, nat_lt, Bool, true, false, cond, List, [], ◌∷◌, map, length, slice_index, Option, None, Some}
use Rattle.std.specs.FinMap as finite
use Rattle.std.specs.FinMap.{get-insert}
use Rattle.std.specs.Ordering.{nat_cmp}
use Rattle.std.specs.Cmp.{nat_cmp_total, unsigned_tied}
use Rattle.std.specs.List.{count_by}
use Rattle.std.proofs.Common.{zero, suc, arith, refl, sym, ap, subst, ◌∙◌, inl, inr}
use Rattle.std.proofs.lemmas.Bool.{cases_Bool, cases_eq, cases_lt, eq-eqb, ne_eqb}
use Rattle.std.proofs.lemmas.Bool.Decides.{nat_tests}
use Rattle.std.proofs.lemmas.List.FromFn.{get_or-map-range_with_len, length-map-range_with_len}
use Rattle.ob_base.specs.Tree.{below, buckets, passes, width}
use Rattle.ob_base.specs.declared.params.Params.{Params}
use Rattle.ob_ring.proofs.Counts.{count_by-cons}
use Rattle.ob_ring.proofs.LiftOrder.{is_at-is}
use Rattle.ob_ring.proofs.Lows.{IsLow, passes_within}
use Rattle.ob_ring.proofs.PathLaws.{IsFirst, find_none, find_some}
use Rattle.ob_ring.proofs.TableOf.{at_is}
use Rattle.ob_ring.specs.FlatTable.{FlatTable, In, InStash, Row, Spot, in_stash, is_at, leaf_of, reads, spot_of}
use Rattle.ob_ring.specs.Picked.{holder}
use Rattle.ob_ring.specs.Sound.{IsSound}
use Rattle.ob_recover.proofs.BookLaws.{IsBookOf, kept_leaf, low_bits}
use Rattle.ob_recover.proofs.LifeSlots.{leaf_low}
use Rattle.ob_recover.proofs.Tree as tree
use Rattle.ob_recover.specs.Life.{LifeContent, WordId, leaf_of_word}
use Rattle.ob_stand.proofs.Planned.{past_none}
use Rattle.ob_stand.proofs.Reading.{held, place_holds}
use Rattle.ob_stand.specs.Table.{flat_of, lying_place, row_for}
use Rattle.ob_tables.specs.Buckets.{no_version, version_at}
use Rattle.ob_tables.specs.Content.{Content, FitsEntry, FitsSeals, IsKeyOf, Obeys, Rows}
use Rattle.ob_tables.specs.Kept.{entry_at}
use Rattle.ob_tables.specs.Rank.{IsRanking}
use Rattle.ob_tables.specs.Version.{AreRanks, Version, VersionObeys, key_at, used_at}
use Rattle.ob_tables.specs.declared.entry.Entry.{Entry}
use Rattle.ob_deniable_draws.proofs.Contents.{content_hidden, entry_hidden, rows_hidden, version_hidden}

-- ---- lists and rows

none_some : (A : Type 0) (k : ℕ) (o : Option ℕ) → o ≡ None → o ≡ Some k → A
none_some A k o e f = absurd (cc)

count_marks : (f : ℕ → Bool) (xs : List ℕ) → count_by (λ (b : Bool). b) (map f xs) ≡ count_by f xs
count_marks f [] = refl
count_marks f (x ∷ xs) = omega (arith, count_by-cons (λ (b : Bool). b) (f x) (map f xs), count_by-cons f x xs, count_marks f xs)

put_row : (rows : Rows) (a : ℕ) (v : List ℕ) (k : ℕ) → finite.get (finite.insert rows a v) k ≡ cond (k == a) (Some v) (finite.get rows k)
put_row rows a v k = get-insert nat_cmp_total rows a v k ∙ ap (λ (b : Bool). cond b (Some v) (finite.get rows k)) (unsigned_tied k a)

abbrev row_told : FlatTable → ℕ → ℕ → Option (List ℕ)
row_told t n k = cond (nat_lt k n) (cond (in_stash (t.rows k)) (Some []) None) None

lt_more : (k n : ℕ) → (k ≡ n → ⊥) → nat_lt k (suc n) ≡ nat_lt k n
lt_more k n h = grind (arith, nat_tests)

lt_here : (n : ℕ) → nat_lt n (suc n) ≡ true
lt_here n = grind (arith, nat_tests)

lt_not : (n : ℕ) → nat_lt n n ≡ false
lt_not n = grind (arith, nat_tests)

told_more : (t : FlatTable) (n k : ℕ) (rows : Rows) (b : Bool) → in_stash (t.rows n) ≡ b → finite.get rows k ≡ row_told t n k → finite.get (cond b (finite.insert rows n []) rows) k ≡ row_told t (suc n) k
told_more t n k rows b is so = elim (cases_eq k n) [
  | inl same ↦ subst (λ (m : ℕ). finite.get (cond b (finite.insert rows n []) rows) m ≡ row_told t (suc n) m) (sym same) (at_n b is (subst (λ (m : ℕ). finite.get rows m ≡ row_told t n m) same so))
  | inr other ↦ (by_other b other ∙ so ∙ ap (λ (x : Bool). cond x (cond (in_stash (t.rows k)) (Some []) None) None) (sym (lt_more k n other)))
]
  where
    at_n : (b : Bool) → in_stash (t.rows n) ≡ b → finite.get rows n ≡ row_told t n n → finite.get (cond b (finite.insert rows n []) rows) n ≡ row_told t (suc n) n
    at_n true up here = put_row rows n [] n ∙ ap (λ (x : Bool). cond x (Some []) (finite.get rows n)) (eq-eqb n n refl) ∙ (λ i. cond (sym (lt_here n) i) (cond (sym up i) (Some []) None) None)
    at_n false down here = here ∙ ap (λ (x : Bool). cond x (cond (in_stash (t.rows n)) (Some []) None) None) (lt_not n) ∙ (λ i. cond (sym (lt_here n) i) (cond (sym down i) (Some []) None) None)

    by_other : (b : Bool) → (k ≡ n → ⊥) → finite.get (cond b (finite.insert rows n []) rows) k ≡ finite.get rows k
    by_other true h = put_row rows n [] k ∙ ap (λ (x : Bool). cond x (Some []) (finite.get rows k)) (ne_eqb k n h)
    by_other false h = refl

none_told : (t : FlatTable) (k : ℕ) → None ≡ row_told t 0 k
none_told t k = (let z : nat_lt k 0 ≡ false = grind (arith, nat_tests) in ap (λ (x : Bool). cond x (cond (in_stash (t.rows k)) (Some []) None) None) (sym z))

pub rows_told : (t : FlatTable) (n k : ℕ) → finite.get (rows_hidden t n) k ≡ row_told t n k
rows_told t zero k = finite.get-empty nat_cmp k ∙ none_told t k
rows_told t (suc n) k = told_more t n k (rows_hidden t n) (in_stash (t.rows n)) refl (rows_told t n k)

one_more : (b c : Bool) (m : Rows) (n : ℕ) (l : ℕ) → finite.len m ≤ n → l ≡ cond c (finite.len m) (finite.len m + 1) → cond b l (finite.len m) ≤ suc n
one_more false c m n l low is = omega arith
one_more true true m n l low is = omega arith
one_more true false m n l low is = omega arith

len_cond : (b : Bool) (x y : Rows) → finite.len (cond b x y) ≡ cond b (finite.len x) (finite.len y)
len_cond true x y = refl
len_cond false x y = refl

rows_few : (t : FlatTable) (n : ℕ) → finite.len (rows_hidden t n) ≤ n
rows_few t zero = omega (arith, finite.len-empty nat_cmp (List ℕ))
rows_few t (suc n) =
    let m : Rows = rows_hidden t n in
    let le : cond (in_stash (t.rows n)) (finite.len (finite.insert m n [])) (finite.len m) ≤ suc n =
    one_more (in_stash (t.rows n)) (finite.contains_key m n) m n (finite.len (finite.insert m n [])) (rows_few t n) (finite.len-insert nat_cmp_total m n []) in
    omega (arith, le, len_cond (in_stash (t.rows n)) (finite.insert m n []) m)

both_none : (b : Bool) → ◌≡◌ {A = Option (List ℕ)} (cond b None None) None
both_none true = refl
both_none false = refl

not_low : (k n : ℕ) → n ≤ k → nat_lt k n ≡ false
not_low k n h = grind (arith, nat_tests)

is_low : (k n : ℕ) → k < n → nat_lt k n ≡ true
is_low k n h = grind (arith, nat_tests)

some_none : ◌≡◌ {A = Option (List ℕ)} (Some []) None → ⊥
some_none e = cc

-- ---- what an epoch's beginning keeps

module _ (p : Params) (tape : WordId → ℕ) where
  pub record IsReady (c : LifeContent) : Type 0 where
    pub sound : IsSound p c.table
    pub few : (u : ℕ) → reads p c.table u < p.dummies
    pub down : (u : ℕ) → c.table.lifted u ≡ false
    pub low : IsLow p c.table
    pub counter : c.table.counter < 2 ^ p.levels
    pub booked : IsBookOf p tape c.table c.book
    pub keys : (k : ℕ) → p.keys ≤ k → c.book k ≡ None
    pub used : (u j : ℕ) → c.table.used u j ≡ true → (u < buckets p) × (j < width p)
    pub home : (u : ℕ) → c.home u < 2
    pub home_out : (u : ℕ) → buckets p ≤ u → c.home u ≡ 0
    pub ranked : (u : ℕ) → IsRanking (width p) (c.slot u)

  -- the numbers of a book's words can be spelled
  abbrev pub AreSmall : (ℕ → Option WordId) → Type 0
  AreSmall book = (k : ℕ) (w : WordId) → book k ≡ Some w → (w.generation < 2 ^ 64) × (w.place < 2 ^ 64)

  module _ (c : LifeContent) (ready : IsReady c) where
    abbrev C : Content
    C = content_hidden p tape c

    book_long : length C.book ≡ p.keys
    book_long = length-map-range_with_len (λ k. entry_hidden p tape (c.book k)) 0 p.keys

    pub book_is : (k : ℕ) → entry_at C.book k ≡ entry_hidden p tape (c.book k)
    book_is k = elim (cases_lt k p.keys) [
      | inl low ↦ get_or-map-range_with_len (λ i. entry_hidden p tape (c.book i)) 0 p.keys k k None low (omega arith)
      | inr high ↦ past_none C.book None k (omega (arith, book_long)) ∙ ap (entry_hidden p tape) (sym (ready.keys k high))
    ]

    versions_long : length C.versions ≡ buckets p
    versions_long = length-map-range_with_len (version_hidden p c) 0 (buckets p)

    pub version_is : (u : ℕ) → u < buckets p → version_at C.versions u ≡ version_hidden p c u
    version_is u low = get_or-map-range_with_len (version_hidden p c) 0 (buckets p) u u no_version low (omega arith)

    pub version_out : (u : ℕ) → buckets p ≤ u → version_at C.versions u ≡ no_version
    version_out u high = past_none C.versions no_version u (omega (arith, versions_long))

    -- ---- where keys lie

    key_is : (u j : ℕ) → u < buckets p → j < p.real → key_at (version_at C.versions u) j ≡ holder p c.table u j
    key_is u j low real = ap (λ (v : Version). key_at v j) (version_is u low) ∙ get_or-map-range_with_len (holder p c.table u) 0 p.real j j None real (omega arith)

    held_at : (u j k : ℕ) → holder p c.table u j ≡ Some k → (k < p.keys) × (spot_of (c.table.rows k) ≡ In u j)
    held_at u j k e =
        let f : IsFirst (λ i. is_at u j (spot_of (c.table.rows i))) 0 p.keys k = find_some (λ i. is_at u j (spot_of (c.table.rows i))) 0 p.keys k e in
        (let to : k < 0 + p.keys = f.to in omega arith, is_at-is u j (spot_of (c.table.rows k)) f.on)

    -- a key that is kept at an index lies there
    abbrev LiesAt : ℕ → ℕ → ℕ → Type 0
    LiesAt u j k = (u < buckets p) × (j < p.real) × (k < p.keys) × (spot_of (c.table.rows k) ≡ In u j)

    key_held : (u j k : ℕ) → key_at (version_at C.versions u) j ≡ Some k → LiesAt u j k
    key_held u j k e = elim (cases_lt u (buckets p)) [
      | inl low ↦ elim (cases_lt j p.real) [
        | inl real ↦ (let h = held_at u j k (sym (key_is u j low real) ∙ e) in (low, real, h.0, h.1))
        | inr high ↦ none_some (LiesAt u j k) k (key_at (version_at C.versions u) j)
            (ap (λ (v : Version). key_at v j) (version_is u low) ∙ past_none (map (holder p c.table u) (below p.real)) None j (omega (arith, length-map-range_with_len (holder p c.table u) 0 p.real))) e
      ]
      | inr high ↦ none_some (LiesAt u j k) k (key_at (version_at C.versions u) j) (ap (λ (v : Version). key_at v j) (version_out u high)) e
    ]

    spot_row : (o : Option Row) (u j : ℕ) → spot_of o ≡ In u j → (x : Row) × (o ≡ Some x)
    spot_row None u j e = absurd (cc)
    spot_row (Some x) u j e = (x, refl)

    no_leaf : (o : Option Row) (x : Row) → o ≡ Some x → kept_leaf o ≡ None → ⊥
    no_leaf None x e f = cc
    no_leaf (Some y) x e f = cc

    row_low : (k : ℕ) (x : Row) → c.table.rows k ≡ Some x → k < p.keys
    row_low k x e = elim (cases_lt k p.keys) [
      | inl low ↦ low
      | inr high ↦ absurd (no_leaf (c.table.rows k) x e (ready.booked k ∙ ap (low_bits p tape) (ready.keys k high)))
    ]

    bucket_low : (k u j : ℕ) → spot_of (c.table.rows k) ≡ In u j → u < buckets p
    bucket_low k u j e = tree.in_tree p u (passes_within p u (leaf_of (c.table.rows k) 0) (ready.low k) (ready.sound.placed k u j e).on_path)

    found_is : (u j k : ℕ) (o : Option ℕ) → spot_of (c.table.rows k) ≡ In u j → holder p c.table u j ≡ o → o ≡ Some k
    found_is u j k None e f = absurd (let row = spot_row (c.table.rows k) u j e in
        find_none (λ i. is_at u j (spot_of (c.table.rows i))) 0 p.keys k f (omega arith) (let l : k < p.keys = row_low k row.0 row.1 in omega arith) (at_is u j (spot_of (c.table.rows k)) e))
    found_is u j k (Some x) e f = ap (λ (n : ℕ). Some n) (ready.sound.alone x k u j (held_at u j x f).1 e)

    pub lies : (k u j : ℕ) → spot_of (c.table.rows k) ≡ In u j → key_at (version_at C.versions u) j ≡ Some k
    lies k u j e = key_is u j (bucket_low k u j e) (ready.sound.placed k u j e).real ∙ found_is u j k (holder p c.table u j) e refl

    -- ---- it obeys

    fits_entry : (k : ℕ) (o : Option WordId) (e : Entry) → ((w : WordId) → o ≡ Some w → (w.generation < 2 ^ 64) × (w.place < 2 ^ 64)) → entry_hidden p tape o ≡ Some e → FitsEntry p e
    fits_entry k None e small is = absurd (cc)
    fits_entry k (Some w) e small is = subst (FitsEntry p) (let same : record { generation = w.generation; index = w.place; leaf = leaf_of_word p tape w } ≡ e = cc in same) (record { generation = (small w refl).0; index = (small w refl).1; leaf = leaf_low p tape w })

    key_entry : (u k : ℕ) (o : Option WordId) (x : Option Row) (y : Row) → kept_leaf x ≡ low_bits p tape o → x ≡ Some y → passes p u (leaf_of x 0) ≡ true → entry_at C.book k ≡ entry_hidden p tape o → IsKeyOf p C.book u k
    key_entry u k None x y e is pass kept = absurd (no_leaf x y is e)
    key_entry u k (Some w) None y e is pass kept = absurd (cc)
    key_entry u k (Some w) (Some z) y e is pass kept = record {
      entry = record { generation = w.generation; index = w.place; leaf = leaf_of_word p tape w };
      kept = kept;
      on_path = subst (λ (n : ℕ). passes p u n ≡ true) (let same : z.leaf ≡ leaf_of_word p tape w = cc in same) pass;
    }

    slot_at : (u j : ℕ) → j < width p → slice_index (map (c.slot u) (below (width p))) j ≡ c.slot u j
    slot_at u j low = get_or-map-range_with_len (c.slot u) 0 (width p) j j 0 low (omega arith)

    slots_long : (u : ℕ) → length (map (c.slot u) (below (width p))) ≡ width p
    slots_long u = length-map-range_with_len (c.slot u) 0 (width p)

    ranks_are : (u : ℕ) → AreRanks (map (c.slot u) (below (width p)))
    ranks_are u = record {
      low = λ j h. (let n : length (map (c.slot u) (below (width p))) ≡ width p = slots_long u in
          let l : j < width p = omega arith in
          let s : slice_index (map (c.slot u) (below (width p))) j ≡ c.slot u j = slot_at u j l in
          let w : c.slot u j < width p = (ready.ranked u).within j l in
          omega arith);
      apart = λ i j h g e. (let n : length (map (c.slot u) (below (width p))) ≡ width p = slots_long u in
          let l : i < width p = omega arith in
          let m : j < width p = omega arith in
          (ready.ranked u).apart i j l m (sym (slot_at u i l) ∙ e ∙ slot_at u j m));
    }

    mark_is : (u j : ℕ) → u < buckets p → used_at (version_at C.versions u) j ≡ c.table.used u j
    mark_is u j low = ap (λ (v : Version). used_at v j) (version_is u low) ∙ elim (cases_lt j (width p)) [
      | inl in' ↦ get_or-map-range_with_len (c.table.used u) 0 (width p) j j false in' (omega arith)
      | inr out ↦ past_none (map (c.table.used u) (below (width p))) false j (omega (arith, length-map-range_with_len (c.table.used u) 0 (width p))) ∙ sym (unmarked u j (λ on. (let h = (ready.used u j on).1 in omega arith)))
    ]
      where
        unmarked : (u j : ℕ) → (c.table.used u j ≡ true → ⊥) → c.table.used u j ≡ false
        unmarked u j h = elim (cases_Bool (c.table.used u j)) [ inl on ↦ absurd (h on) | inr off ↦ off ]

    version_obeys : (u : ℕ) → u < buckets p → VersionObeys p (version_hidden p c u)
    version_obeys u low = record {
      slots = record {
        keys = length-map-range_with_len (holder p c.table u) 0 p.real;
        ranks = length-map-range_with_len (c.slot u) 0 (width p);
        used = length-map-range_with_len (c.table.used u) 0 (width p);
      };
      home = ready.home u;
      ranks = ranks_are u;
      marks = record {
        unshown = λ j k e. (
            let at : LiesAt u j k = key_held u j k (ap (λ (v : Version). key_at v j) (version_is u low) ∙ e) in
            ap (λ (v : Version). used_at v j) (sym (version_is u low)) ∙ mark_is u j low ∙ (ready.sound.placed k u j at.3).unread);
        few = (let n : count_by (λ (b : Bool). b) (map (c.table.used u) (below (width p))) ≡ count_by (c.table.used u) (below (width p)) = count_marks (c.table.used u) (below (width p)) in
            let f : reads p c.table u < p.dummies = ready.few u in
            omega arith);
      };
    }

    in_spot : (A : Type 0) (o : Option Row) (u j : ℕ) → in_stash o ≡ true → spot_of o ≡ In u j → A
    in_spot A None u j on e = absurd (cc)
    in_spot A (Some x) u j on e = absurd (spot_case x.spot on e)
      where
        spot_case : (s : Spot) → in_stash (Some (record { leaf = 0; spot = s })) ≡ true → s ≡ In u j → ⊥
        spot_case InStash on e = cc
        spot_case (In v i) on e = cc

    stashed : (o : Option Row) (x : Row) → o ≡ Some x → ((u j : ℕ) → spot_of o ≡ In u j → ⊥) → in_stash o ≡ true
    stashed None x e none = absurd (cc)
    stashed (Some y) x e none = spot_case y.spot none
      where
        spot_case : (s : Spot) → ((u j : ℕ) → s ≡ In u j → ⊥) → in_stash (Some (record { leaf = y.leaf; spot = s })) ≡ true
        spot_case InStash h = refl
        spot_case (In v i) h = absurd (h v i refl)

    stash_row : (o : Option Row) → in_stash o ≡ true → (x : Row) × (o ≡ Some x)
    stash_row None on = absurd (cc)
    stash_row (Some x) on = (x, refl)

    row_of_entry : (o : Option WordId) (x : Option Row) → kept_leaf x ≡ low_bits p tape o → (entry_hidden p tape o ≡ None → ⊥) → (y : Row) × (x ≡ Some y)
    row_of_entry None x e some = absurd (some refl)
    row_of_entry (Some w) None e some = absurd (cc)
    row_of_entry (Some w) (Some y) e some = (y, refl)

    entry_of_row : (o : Option WordId) (x : Option Row) (y : Row) → kept_leaf x ≡ low_bits p tape o → x ≡ Some y → entry_hidden p tape o ≡ None → ⊥
    entry_of_row None x y e is none = no_leaf x y is e
    entry_of_row (Some w) x y e is none = cc

    pub obeys : AreSmall c.book → p.keys ≤ p.room → Obeys p C
    obeys small room = record {
      counter = ready.counter;
      book = record { many = book_long; entries = λ k e is. fits_entry k (c.book k) e (small k) (sym (book_is k) ∙ is) };
      many = versions_long;
      versions = λ u low. subst (VersionObeys p) (sym (version_is u low)) (version_obeys u low);
      seals = λ u low. subst (λ (v : Version). FitsSeals v) (sym (version_is u low)) (record { generation = omega arith; base = omega arith });
      keys = λ u j k e. (
          let at : LiesAt u j k = key_held u j k e in
          let row = spot_row (c.table.rows k) u j at.3 in
          key_entry u k (c.book k) (c.table.rows k) row.0 (ready.booked k) row.1 (ready.sound.placed k u j at.3).on_path (book_is k));
      once = λ k u v i j e f. (let a : In u i ≡ In v j = sym (key_held u i k e).3 ∙ (key_held v j k f).3 in (cc, cc));
      stash = λ k. (
        (λ some. (let h = told_in k (λ none. some (rows_told c.table p.keys k ∙ none)) in
            let row = stash_row (c.table.rows k) h.1 in
            ((λ none. entry_of_row (c.book k) (c.table.rows k) row.0 (ready.booked k) row.1 (sym (book_is k) ∙ none)), (λ u j at. in_spot ⊥ (c.table.rows k) u j h.1 (key_held u j k at).3)))),
        (λ both none. (let row = row_of_entry (c.book k) (c.table.rows k) (ready.booked k) (λ absent. both.0 (book_is k ∙ absent)) in
            let on : in_stash (c.table.rows k) ≡ true = stashed (c.table.rows k) row.0 row.1 (λ u j at. both.1 u j (lies k u j at)) in
            not_told k (row_low k row.0 row.1) on (sym (rows_told c.table p.keys k) ∙ none))),
      );
      short = λ k value is. (let e : value ≡ [] = told_value k value (sym (rows_told c.table p.keys k) ∙ is) in let n : length value ≡ 0 = ap (λ (l : List ℕ). length l) e in omega arith);
      few = omega (arith, rows_few c.table p.keys);
    }
      where
        told_in : (k : ℕ) → (row_told c.table p.keys k ≡ None → ⊥) → (k < p.keys) × (in_stash (c.table.rows k) ≡ true)
        told_in k h = elim (cases_lt k p.keys) [
          | inl low ↦ elim (cases_Bool (in_stash (c.table.rows k))) [
            | inl on ↦ (low, on)
            | inr off ↦ absurd (h (ap (λ (b : Bool). cond (nat_lt k p.keys) (cond b (Some []) None) None) off ∙ both_none (nat_lt k p.keys)))
          ]
          | inr high ↦ absurd (h (ap (λ (b : Bool). cond b (cond (in_stash (c.table.rows k)) (Some []) None) None) (not_low k p.keys high)))
        ]

        not_told : (k : ℕ) → k < p.keys → in_stash (c.table.rows k) ≡ true → row_told c.table p.keys k ≡ None → ⊥
        not_told k low on none = some_none (sym (λ i. cond (is_low k p.keys low i) (cond (on i) (Some []) None) None) ∙ none)

        told_value : (k : ℕ) (value : List ℕ) → row_told c.table p.keys k ≡ Some value → value ≡ []
        told_value k value e = by_cases (nat_lt k p.keys) (in_stash (c.table.rows k)) e
          where
            by_cases : (a b : Bool) → cond a (cond b (Some []) None) None ≡ Some value → value ≡ []
            by_cases true true f = cc
            by_cases true false f = absurd (cc)
            by_cases false b f = absurd (cc)

    -- ---- its table is the life's

    row_case : (o : Option WordId) (x : Option Row) (s : Spot) → kept_leaf x ≡ low_bits p tape o → ((y : Row) → x ≡ Some y → s ≡ y.spot) → row_for (entry_hidden p tape o) s ≡ x
    row_case None None s e at = refl
    row_case None (Some y) s e at = absurd (cc)
    row_case (Some w) None s e at = absurd (cc)
    row_case (Some w) (Some y) s e at = (let leaf : leaf_of_word p tape w ≡ y.leaf = cc in λ i. Some (record { leaf = leaf i; spot = at y refl i }))

    lying_is : Obeys p C → (k : ℕ) (x : Row) → c.table.rows k ≡ Some x → lying_place p C.versions k ≡ x.spot
    lying_is obeying k x e = by_spot x.spot refl
      where
        stays : (s : Spot) → lying_place p C.versions k ≡ s → x.spot ≡ InStash → s ≡ InStash
        stays InStash f is = refl
        stays (In u j) f is = absurd (let at : spot_of (c.table.rows k) ≡ In u j = (key_held u j k (place_holds p C.versions k u j f)).3 in
            let both : InStash ≡ In u j = sym is ∙ sym (ap spot_of e) ∙ at in cc)

        by_spot : (s : Spot) → x.spot ≡ s → lying_place p C.versions k ≡ s
        by_spot InStash is = stays (lying_place p C.versions k) refl is
        by_spot (In u j) is = held p C k u j obeying (lies k u j (ap spot_of e ∙ is))

    pub table_is : Obeys p C → flat_of p C ≡ c.table
    table_is obeying i = record {
      rows = λ k. (ap (λ (o : Option Entry). row_for o (lying_place p C.versions k)) (book_is k) ∙ row_case (c.book k) (c.table.rows k) (lying_place p C.versions k) (ready.booked k) (lying_is obeying k)) i;
      used = λ u j. marks_are u j i;
      lifted = λ u. sym (ready.down u) i;
      counter = c.table.counter;
    }
      where
        unmarked : (u j : ℕ) → (c.table.used u j ≡ true → ⊥) → c.table.used u j ≡ false
        unmarked u j h = elim (cases_Bool (c.table.used u j)) [ inl on ↦ absurd (h on) | inr off ↦ off ]

        marks_are : (u j : ℕ) → used_at (version_at C.versions u) j ≡ c.table.used u j
        marks_are u j = elim (cases_lt u (buckets p)) [
          | inl low ↦ mark_is u j low
          | inr high ↦ ap (λ (v : Version). used_at v j) (version_out u high) ∙ sym (unmarked u j (λ on. (let h = (ready.used u j on).0 in omega arith)))
        ]
