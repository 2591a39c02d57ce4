-- The text of a content that obeys keeps all rules of a checkpoint's bytes.
use Rattle.std.specs.Prelude.{◌≡◌, ◌≢◌, ◌<◌, ◌≤◌, ℕ, ◌+◌, ◌^◌, ◌==◌, nat_lt, nat_le, Bool, true, false, cond, not, ◌&&◌, ◌||◌, List, [], ◌∷◌, ◌++◌, map, length, slice_index, Option, Some, None}
use Rattle.std.specs.List.{flat_map, count_by}
use Rattle.std.specs.Int.{w64}
use Rattle.std.specs.FinMap as finite
use Rattle.std.proofs.Common.{zero, suc, arith, refl, sym, ap, subst, ◌∙◌, inl, inr, get_or}
use Rattle.std.proofs.lemmas.Bool.{cases_eq, cases_lt, eq-eqb, true≢false}
use Rattle.std.proofs.lemmas.Bool.Decides.{nat_tests}
use Rattle.std.proofs.lemmas.List.{ext_get_or, length-map, get_or-map, get_or_past}
use Rattle.std.proofs.lemmas.List.FromFn.{length-map-range_with_len, get_or-map-range_with_len}
use Rattle.ob_base.specs.declared.params.Params.{Params}
use Rattle.ob_base.specs.LittleEndian.{field_at}
use Rattle.ob_base.specs.Tree.{buckets, width, below, passes}
use Rattle.ob_tables.specs.Version.{Version, EMPTY, key_at, rank_at, used_at, mark_of}
use Rattle.ob_tables.specs.Buckets.{version_at, no_version}
use Rattle.ob_tables.specs.declared.entry.Entry.{Entry}
use Rattle.ob_tables.specs.Kept.{entry_at}
use Rattle.ob_cells.specs.Rules.{Rule, first_broken}
use Rattle.ob_tables.specs.Content.{Content, Obeys, IsLoose}
use Rattle.ob_tables.specs.Spelling.{checkpoint_bytes}
use Rattle.ob_tables.proofs.TextLaws.{key_low, row_is_of, row_key_low, row_short}
use Rattle.ob_check.specs.Fields.{byte_at, entry_place, is_present, leaf_in, bucket_place, number_in, rank_in, mark_in, count_in, row_key_in, row_len_in}
use Rattle.ob_check.specs.Rules.{is_among, counter_rules, present_rule, leaf_rule, entry_rules, numbers_in, placed_in, placed_before, may_lie, may_stand, key_rule, key_rules, ranks_in, shown_in}
use Rattle.ob_check.specs.Rules.{holds_key, may_rank, may_mark, rank_rule, mark_rule, index_rules, home_rule, home_rules, bucket_rules, is_loose, loose_keys, many_rule, room_rule, count_rules}
use Rattle.ob_check.specs.Rules.{row_key_rule, row_len_rule, row_rules, stash_rules, rules}
use Rattle.ob_check.proofs.ContentReads.{found_at}
use Rattle.ob_check.proofs.MarkLaws.{shown_more}
use Rattle.ob_check.proofs.Members.{among_flat, among_map, among_either, flat_among, map_among}
use Rattle.ob_check.proofs.Passing.{both, off, lt_to}
use Rattle.ob_check.proofs.RisingKeys.{keys_are}
use Rattle.ob_cells.proofs.RuleLaws.{kept_then}
use Rattle.ob_check.proofs.RuleLaws.{parts_go}
use Rattle.ob_check.proofs.TextReads.{StandsAs, entry_stands, HoldsVersion, holds_version, bucket_spelled, number_of, counter_is, count_is, rows_of, holds_row}
use Rattle.ob_check.proofs.VersionReads.{count_map}

-- ---- tests that pass

le_to : (x k : ℕ) → x ≤ k → nat_le x k ≡ true
le_to x k h = grind (arith, nat_tests)

or_right : (a b : Bool) → b ≡ true → (a || b) ≡ true
or_right true b e = refl
or_right false b e = e

not_on : (b : Bool) → (b ≡ true → ⊥) → b ≡ false
not_on true f = absurd (f refl)
not_on false f = refl

kept_one : (r : Rule) (rs : List Rule) → r.obeys ≡ true → first_broken rs ≡ None → first_broken (r ∷ rs) ≡ None
kept_one r rs on rest = ap (λ (b : Bool). cond b (first_broken rs) (Some r)) on ∙ rest

kept_parts : (f : ℕ → List Rule) (n : ℕ) → ((i : ℕ) → i < n → first_broken (f i) ≡ None) → first_broken (flat_map f (below n)) ≡ None
kept_parts f zero each = refl
kept_parts f (suc n) each = let e : suc n ≡ n + 1 = omega arith in ap (λ m. first_broken (flat_map f (below m))) e ∙ parts_go f n (kept_parts f n (λ i lt. each i (omega arith))) (each n (omega arith))

some≢none : {X : Type 0} {x : X} → ◌≡◌ {A = Option X} (Some x) None → ⊥
some≢none e = cc

some_of_not : {X : Type 0} (o : Option X) → o ≢ None → (x : X) × (o ≡ Some x)
some_of_not None ne = absurd (ne refl)
some_of_not (Some x) ne = (x, refl)

-- ---- numbers and marks

number_there : (o : Option ℕ) (k : ℕ) → number_of o ≡ k → k ≢ EMPTY → o ≡ Some k
number_there None k is ne = absurd (ne (sym is))
number_there (Some x) k is ne = ap Some is

mark_low : (b : Bool) → mark_of b ≢ 1 → b ≡ false
mark_low true ne = absurd (ne refl)
mark_low false ne = refl

pub marked_as : (b : Bool) → (mark_of b == 1) ≡ b
marked_as true = refl
marked_as false = refl

module _ (p : Params) (e : ℕ) (c : Content) (o : Obeys p c) where
  abbrev text : List ℕ
  text = checkpoint_bytes p e c

  version : (u : ℕ) → u < buckets p → HoldsVersion p text u (version_at c.versions u)
  version u lt = holds_version p text u (version_at c.versions u) (bucket_spelled p e c o u lt)

  entry : (k : ℕ) → k < p.keys → StandsAs p text k (entry_at c.book k)
  entry k lt = entry_stands p e c o k lt

  -- ---- keys

  present_case : (k : ℕ) (x : Option Entry) → entry_at c.book k ≡ x → StandsAs p text k x → first_broken (entry_rules p text k) ≡ None
  present_case k None at s =
      let byte : byte_at text (entry_place k) ≡ 0 = s.absent refl in
      kept_one (present_rule text k) (leaf_rule p text k ∷ []) (ap (λ n. nat_le n 1) byte)
      (kept_one (leaf_rule p text k) [] (ap (λ n. not (n == 1) || nat_lt (leaf_in text k) (2 ^ p.levels)) byte) refl)
  present_case k (Some x) at s =
      let byte : byte_at text (entry_place k) ≡ 1 = (s.present x refl).0 in
      let leaf : leaf_in text k ≡ x.leaf = (s.present x refl).1 in
      let low : x.leaf < 2 ^ p.levels = (o.book.entries k x at).leaf in
      kept_one (present_rule text k) (leaf_rule p text k ∷ []) (ap (λ n. nat_le n 1) byte)
      (kept_one (leaf_rule p text k) [] (or_right (not (is_present text k)) (nat_lt (leaf_in text k) (2 ^ p.levels)) (lt_to (leaf_in text k) (2 ^ p.levels) (omega arith))) refl)

  entries_kept : first_broken (flat_map (entry_rules p text) (below p.keys)) ≡ None
  entries_kept = kept_parts (entry_rules p text) p.keys (λ k lt. present_case k (entry_at c.book k) refl (entry k lt))

  present_of : (k : ℕ) (x : Entry) → k < p.keys → entry_at c.book k ≡ Some x → (is_present text k ≡ true) × (leaf_in text k ≡ x.leaf)
  present_of k x lt at = let s = (entry k lt).present x at in (ap (λ n. n == 1) s.0, s.1)

  entry_of : (k : ℕ) → k < p.keys → is_present text k ≡ true → entry_at c.book k ≢ None
  entry_of k lt on = λ none. true≢false (sym on ∙ ap (λ n. n == 1) ((entry k lt).absent none))

  -- ---- where keys lie

  lies_at : (u j k : ℕ) → u < buckets p → j < p.real → number_in p text u j ≡ k → k ≢ EMPTY → key_at (version_at c.versions u) j ≡ Some k
  lies_at u j k h i is ne = number_there (key_at (version_at c.versions u) j) k (sym ((version u h).numbers j i) ∙ is) ne

  key_some : (u j k : ℕ) → key_at (version_at c.versions u) j ≡ Some k → k ≢ EMPTY
  key_some u j k at = λ is. (let low : k < p.keys = key_low p c o u j k at in absurd (omega (arith, p.in_range.few_keys)))

  alone : (u j k : ℕ) → u < buckets p → j < p.real → key_at (version_at c.versions u) j ≡ Some k → is_among (placed_before p text u j) k ≡ false
  alone u j k h i at = not_on (is_among (placed_before p text u j) k) (λ on.
      let ne : k ≢ EMPTY = key_some u j k at in
      elim (among_either (placed_in p text u) (numbers_in p text u j) k on) [
        | inl before ↦ (
            let v = flat_among (λ w. numbers_in p text w p.real) u k before in
            let n = map_among (number_in p text v.0) p.real k v.2 in
            let less : v.0 < u = v.1 in
            let same : v.0 ≡ u = (o.once k v.0 u n.0 j (lies_at v.0 n.0 k (omega arith) n.1 n.2 ne) at).0 in
            absurd (omega arith))
        | inr here ↦ (
            let n = map_among (number_in p text u) j k here in
            let less : n.0 < j = n.1 in
            let same : n.0 ≡ j = (o.once k u u n.0 j (lies_at u n.0 k h (omega arith) n.2 ne) at).1 in
            absurd (omega arith))
      ])

  key_case : (u j : ℕ) (x : Option ℕ) → u < buckets p → j < p.real → key_at (version_at c.versions u) j ≡ x → may_stand p text u (placed_before p text u j) (number_of x) ≡ true
  key_case u j None h i at = refl
  key_case u j (Some k) h i at =
      let low : k < p.keys = key_low p c o u j k at in
      let is = o.keys u j k at in
      let here = present_of k is.entry low is.kept in
      let on_path : passes p u (leaf_in text k) ≡ true = ap (passes p u) here.1 ∙ is.on_path in
      let free : is_among (placed_before p text u j) k ≡ false = alone u j k h i at in
      or_right (k == EMPTY) (nat_lt k p.keys && may_lie p text u (placed_before p text u j) k) (rw (lt_to k p.keys low, here.0, on_path, free) refl)

  keys_kept : (u : ℕ) → u < buckets p → first_broken (flat_map (key_rules p text u) (below p.real)) ≡ None
  keys_kept u h = kept_parts (key_rules p text u) p.real (λ j i. kept_one (key_rule p text u j) []
      (ap (may_stand p text u (placed_before p text u j)) ((version u h).numbers j i) ∙ key_case u j (key_at (version_at c.versions u) j) h i refl) refl)

  -- ---- indexes

  rank_kept : (u i : ℕ) → u < buckets p → i < width p → may_rank p (ranks_in p text u i) (rank_in p text u i) ≡ true
  rank_kept u i h lt =
      let v : Version = version_at c.versions u in
      let obeys = o.versions u h in
      let many : length v.ranks ≡ width p = obeys.slots.ranks in
      let is : rank_in p text u i ≡ rank_at v i = (version u h).ranks i lt in
      let low : rank_at v i < length v.ranks = obeys.ranks.low i (omega arith) in
      let free : is_among (ranks_in p text u i) (rank_in p text u i) ≡ false = not_on (is_among (ranks_in p text u i) (rank_in p text u i)) (λ on.
      let n = map_among (rank_in p text u) i (rank_in p text u i) on in
      let less : n.0 < i = n.1 in
      let same : n.0 ≡ i = obeys.ranks.apart n.0 i (omega arith) (omega arith) (sym ((version u h).ranks n.0 (omega arith)) ∙ n.2 ∙ is) in
      absurd (omega arith)) in
      rw (lt_to (rank_in p text u i) (width p) (omega arith), free) refl

  shown_up : (u i : ℕ) → shown_in p text u (suc i) ≡ shown_in p text u i + cond (mark_in p text u i == 1) 1 0
  shown_up u i = let e : suc i ≡ i + 1 = omega arith in ap (shown_in p text u) e ∙ shown_more p text u i

  shown_rises : (u i n : ℕ) → i ≤ n → shown_in p text u i ≤ shown_in p text u n
  shown_rises u i zero le = let e : i ≡ 0 = omega arith in let s : shown_in p text u i ≡ shown_in p text u 0 = ap (shown_in p text u) e in omega arith
  shown_rises u i (suc n) le = elim (cases_eq i (suc n)) [
    | inl same ↦ (let s : shown_in p text u i ≡ shown_in p text u (suc n) = ap (shown_in p text u) same in omega arith)
    | inr ne ↦ (let before : shown_in p text u i ≤ shown_in p text u n = shown_rises u i n (omega arith) in let s : shown_in p text u (suc n) ≡ shown_in p text u n + cond (mark_in p text u n == 1) 1 0 = shown_up u n in omega arith)
  ]

  pub used_are : (u : ℕ) → u < buckets p → (version_at c.versions u).used ≡ map (λ i. mark_in p text u i == 1) (below (width p))
  used_are u h =
      let v : Version = version_at c.versions u in
      let many : length v.used ≡ width p = (o.versions u h).slots.used in
      ext_get_or false v.used (map (λ i. mark_in p text u i == 1) (below (width p))) (many ∙ sym (length-map-range_with_len (λ i. mark_in p text u i == 1) 0 (width p)))
      (λ i lt. (let l : i < width p = omega arith in sym (marked_as (used_at v i)) ∙ ap (λ n. n == 1) (sym ((version u h).marks i l)) ∙ sym (get_or-map-range_with_len (λ n. mark_in p text u n == 1) 0 (width p) i i false l (omega arith))))

  shown_few : (u : ℕ) → u < buckets p → shown_in p text u (width p) < p.dummies
  shown_few u h =
      let few : count_by (λ m. m) (version_at c.versions u).used < p.dummies = (o.versions u h).marks.few in
      subst (λ n. n < p.dummies) (ap (count_by (λ m. m)) (used_are u h) ∙ count_map (λ i. mark_in p text u i == 1) (width p)) few

  unheld : (u i : ℕ) → u < buckets p → used_at (version_at c.versions u) i ≡ true → holds_key p text u i ≡ false
  unheld u i h shown = not_on (holds_key p text u i) (λ on.
      let b = both (nat_lt i p.real) (not (number_in p text u i == EMPTY)) on in
      let real : i < p.real = lt_of i p.real b.0 in
      let ne : number_in p text u i ≢ EMPTY = λ is. true≢false (sym (eq-eqb (number_in p text u i) EMPTY is) ∙ off (number_in p text u i == EMPTY) b.1) in
      let unused : used_at (version_at c.versions u) i ≡ false = (o.versions u h).marks.unshown i (number_in p text u i) (lies_at u i (number_in p text u i) h real refl ne) in
      true≢false (sym shown ∙ unused))
    where
      lt_of : (x k : ℕ) → nat_lt x k ≡ true → x < k
      lt_of x k h = grind (arith, nat_tests)

  mark_case : (u i : ℕ) (b : Bool) → u < buckets p → i < width p → used_at (version_at c.versions u) i ≡ b → may_mark p (holds_key p text u i) (shown_in p text u i) (mark_of b) ≡ true
  mark_case u i false h lt is = refl
  mark_case u i true h lt is =
      let mark : mark_in p text u i ≡ 1 = (version u h).marks i lt ∙ ap mark_of is in
      let up : shown_in p text u (suc i) ≡ shown_in p text u i + 1 = shown_up u i ∙ ap (λ n. shown_in p text u i + cond (n == 1) 1 0) mark in
      let on : shown_in p text u (suc i) ≤ shown_in p text u (width p) = shown_rises u (suc i) (width p) (omega arith) in
      let few : shown_in p text u (width p) < p.dummies = shown_few u h in
      rw (unheld u i h is, lt_to (shown_in p text u i + 1) p.dummies (omega arith)) refl

  indexes_kept : (u : ℕ) → u < buckets p → first_broken (flat_map (index_rules p text u) (below (width p))) ≡ None
  indexes_kept u h = kept_parts (index_rules p text u) (width p) (λ i lt. kept_one (rank_rule p text u i) (mark_rule p text u i ∷ []) (rank_kept u i h lt)
      (kept_one (mark_rule p text u i) []
      (ap (may_mark p (holds_key p text u i) (shown_in p text u i)) ((version u h).marks i lt) ∙ mark_case u i (used_at (version_at c.versions u) i) h lt refl) refl))

  home_kept : (u : ℕ) → u < buckets p → first_broken (home_rules p text u) ≡ None
  home_kept u h =
      let is : byte_at text (bucket_place p u) ≡ (version_at c.versions u).home = (version u h).home in
      let low : (version_at c.versions u).home < 2 = (o.versions u h).home in
      kept_one (home_rule p text u) [] (le_to (byte_at text (bucket_place p u)) 1 (omega arith)) refl

  buckets_kept : first_broken (flat_map (bucket_rules p text) (below (buckets p))) ≡ None
  buckets_kept = kept_parts (bucket_rules p text) (buckets p) (λ u h.
      kept_then (home_rules p text u) (flat_map (key_rules p text u) (below p.real) ++ flat_map (index_rules p text u) (below (width p))) (home_kept u h)
      ∙ kept_then (flat_map (key_rules p text u) (below p.real)) (flat_map (index_rules p text u) (below (width p))) (keys_kept u h) ∙ indexes_kept u h)

  -- ---- the stash

  loose_from : (k : ℕ) → is_among (placed_in p text (buckets p)) k ≡ false → k ≢ EMPTY → IsLoose c.versions k
  loose_from k free ne = λ u j at.
      elim (cases_lt u (buckets p)) [
        | inl h ↦ elim (cases_lt j p.real) [
          | inl i ↦ true≢false (sym (among_flat (λ w. numbers_in p text w p.real) (buckets p) u k h (among_map (number_in p text u) p.real j k i ((version u h).numbers j i ∙ ap number_of at))) ∙ free)
          | inr ge ↦ past_keys u j k h ge at
        ]
        | inr ge ↦ past_buckets u j k ge at
      ]
    where
      past_keys : (u j k : ℕ) → u < buckets p → p.real ≤ j → key_at (version_at c.versions u) j ≡ Some k → ⊥
      past_keys u j k h ge at = let many : length (version_at c.versions u).keys ≡ p.real = (o.versions u h).slots.keys in some≢none (sym at ∙ get_or_past (version_at c.versions u).keys j None (omega arith))

      past_buckets : (u j k : ℕ) → buckets p ≤ u → key_at (version_at c.versions u) j ≡ Some k → ⊥
      past_buckets u j k ge at = let many : length c.versions ≡ buckets p = o.many in some≢none (sym at ∙ ap (λ (v : Version). key_at v j) (get_or_past c.versions u no_version (omega arith)) ∙ refl)

  free_from : (k : ℕ) → IsLoose c.versions k → k ≢ EMPTY → is_among (placed_in p text (buckets p)) k ≡ false
  free_from k loose ne = not_on (is_among (placed_in p text (buckets p)) k) (λ on.
      let u = flat_among (λ w. numbers_in p text w p.real) (buckets p) k on in
      let j = map_among (number_in p text u.0) p.real k u.2 in
      loose u.0 j.0 (lies_at u.0 j.0 k u.1 j.1 j.2 ne))

  row_there : (k : ℕ) → k < p.keys → is_loose p text k ≡ true → (i : ℕ) × (i < length (rows_of c)) × ((get_or (rows_of c) i (0, [])).0 ≡ k)
  row_there k lt on =
      let b = both (is_present text k) (not (is_among (placed_in p text (buckets p)) k)) on in
      let ne : k ≢ EMPTY = λ is. absurd (omega (arith, p.in_range.few_keys)) in
      let there : finite.get c.rows k ≢ None = (o.stash k).1 (entry_of k lt b.0, loose_from k (off (is_among (placed_in p text (buckets p)) k) b.1) ne) in
      let v = some_of_not (finite.get c.rows k) there in
      let f = found_at k (rows_of c) v.0 (sym (finite.get-entries c.rows k) ∙ v.1) in
      (f.0, f.1, f.2)

  row_passes : (i : ℕ) → i < length (rows_of c) → is_loose p text (get_or (rows_of c) i (0, [])).0 ≡ true
  row_passes i lt =
      let k : ℕ = (get_or (rows_of c) i (0, [])).0 in
      let low : k < p.keys = row_key_low p c o i lt in
      let ne : k ≢ EMPTY = λ is. absurd (omega (arith, p.in_range.few_keys)) in
      let is = (o.stash k).0 (λ none. some≢none (sym (row_is_of c.rows i lt) ∙ none)) in
      let x = some_of_not (entry_at c.book k) is.0 in
      rw ((present_of k x.0 low x.1).0, free_from k is.1 ne) refl

  pub rows_loose : map (λ (row : ℕ × List ℕ). row.0) (rows_of c) ≡ loose_keys p text
  rows_loose = keys_are (is_loose p text) p.keys 0 (rows_of c) (record {
    rise = finite.entries_sorted c.rows;
    there = λ k le lt on. row_there k (omega arith) on;
    pass = row_passes;
    from = λ i lt. omega arith;
    low = λ i lt. (let l : (get_or (rows_of c) i (0, [])).0 < p.keys = row_key_low p c o i lt in omega arith);
  })

  pub loose_many : length (loose_keys p text) ≡ length (rows_of c)
  loose_many = ap length (sym rows_loose) ∙ length-map (rows_of c) (λ (row : ℕ × List ℕ). row.0)

  loose_at : (i : ℕ) → i < length (rows_of c) → slice_index (loose_keys p text) i ≡ (get_or (rows_of c) i (0, [])).0
  loose_at i lt = ap (λ (xs : List ℕ). get_or xs i 0) (sym rows_loose) ∙ get_or-map (λ (row : ℕ × List ℕ). row.0) (rows_of c) i (0, []) 0 lt

  stash_kept : first_broken (stash_rules p text) ≡ None
  stash_kept =
      let count : count_in p text ≡ finite.len c.rows = count_is p e c o in
      let many : finite.len c.rows ≡ length (rows_of c) = finite.len-entries c.rows in
      let loose : length (loose_keys p text) ≡ length (rows_of c) = loose_many in
      let few : finite.len c.rows ≤ p.room = o.few in
      kept_then (count_rules p text) (flat_map (row_rules p text) (below (length (loose_keys p text))))
      (kept_one (many_rule p text) (room_rule p text ∷ []) (eq-eqb (count_in p text) (length (loose_keys p text)) (omega arith)) (kept_one (room_rule p text) [] (le_to (count_in p text) p.room (omega arith)) refl))
      ∙ kept_parts (row_rules p text) (length (loose_keys p text)) (λ i lt.
      let low : i < length (rows_of c) = omega arith in
      let row = holds_row p e c o i low in
      let short : length (get_or (rows_of c) i (0, [])).1 ≤ 64 = row_short p c o i low in
      let len : row_len_in p text i ≡ length (get_or (rows_of c) i (0, [])).1 = row.len in
      kept_one (row_key_rule p text i) (row_len_rule p text i ∷ []) (eq-eqb (row_key_in p text i) (slice_index (loose_keys p text) i) (row.key ∙ sym (loose_at i low)))
      (kept_one (row_len_rule p text i) [] (le_to (row_len_in p text i) 64 (omega arith)) refl))

  -- ---- all of them

  counter_kept : first_broken (counter_rules p text) ≡ None
  counter_kept =
      let is : field_at w64 text 8 ≡ c.counter = counter_is p e c o in
      let low : c.counter < 2 ^ p.levels = o.counter in
      kept_one (record { place = 8; kept = field_at w64 text 8; obeys = nat_lt (field_at w64 text 8) (2 ^ p.levels); least = 0 }) [] (lt_to (field_at w64 text 8) (2 ^ p.levels) (omega arith)) refl

  pub rules_kept : first_broken (rules p text) ≡ None
  rules_kept =
      let entries : List Rule = flat_map (entry_rules p text) (below p.keys) in
      let versions : List Rule = flat_map (bucket_rules p text) (below (buckets p)) in
      kept_then (counter_rules p text) (entries ++ (versions ++ stash_rules p text)) counter_kept ∙ kept_then entries (versions ++ stash_rules p text) entries_kept ∙ kept_then versions (stash_rules p text) buckets_kept ∙ stash_kept
