-- The content that bytes tell obeys the rules of a checkpoint's content, where those of the bytes are kept.
use Rattle.std.specs.Prelude.{◌≡◌, ◌≢◌, ◌<◌, ◌≤◌, ◌⊎◌, ℕ, ◌+◌, ◌^◌, ◌==◌, nat_lt, Bool, true, false, cond, not, ◌&&◌, List, [], ◌∷◌, ◌++◌, map, take, filter, length, slice_index, Option, Some, None}
use Rattle.std.specs.List.{flat_map}
use Rattle.std.specs.Int.{w64}
use Rattle.std.specs.Ordering.{nat_cmp}
use Rattle.std.specs.Cmp.{nat_cmp_total}
use Rattle.std.specs.FinMap as finite
use Rattle.std.specs.FinMap.{find}
use Rattle.std.proofs.Common.{zero, suc, arith, refl, sym, ap, subst, ◌∙◌, inl, inr, get_or, length-take}
use Rattle.std.proofs.lemmas.Bool.{cases_eq, cases_lt, true≢false}
use Rattle.std.proofs.lemmas.List.{get_or_past}
use Rattle.std.proofs.lemmas.List.FromFn.{length-map-range_with_len, get_or-map-range_with_len, length-range_with_len, get_or-range_with_len}
use Rattle.ob_base.specs.declared.params.Params.{Params}
use Rattle.ob_base.specs.Layout.{checkpoint_len}
use Rattle.ob_base.specs.LittleEndian.{field_at}
use Rattle.ob_base.specs.Tree.{buckets, width, below, passes}
use Rattle.ob_tables.specs.Version as bucket
use Rattle.ob_tables.specs.Version.{Version, Spells, EMPTY, key_at}
use Rattle.ob_tables.specs.Buckets.{version_at, no_version}
use Rattle.ob_tables.specs.declared.entry.Entry.{Entry}
use Rattle.ob_tables.specs.Kept.{entry_at}
use Rattle.ob_tables.proofs.RowLaws.{ties, differs}
use Rattle.ob_cells.specs.Rules.{Rule, first_broken}
use Rattle.ob_tables.specs.Content.{Obeys, FitsBook, FitsEntry, FitsSeals, IsLoose, IsKeyOf}
use Rattle.ob_check.specs.Fields.{byte_at, entry_place, is_present, leaf_in, bucket_place, number_in, rank_in, mark_in, count_in, row_key_in, row_len_in, row_value_in}
use Rattle.ob_check.specs.Marks.{HaveLeaves}
use Rattle.ob_check.specs.Reading.{entry_in, key_of, version_in, row_in, content_in}
use Rattle.ob_check.specs.Rules.{is_among, counter_rules, entry_rules, numbers_in, placed_in, placed_before, may_lie, may_stand, key_rule, key_rules, ranks_in, shown_in, holds_key, may_rank, may_mark}
use Rattle.ob_check.specs.Rules.{rank_rule, mark_rule, index_rules, home_rule, home_rules, bucket_rules, is_loose, loose_keys, many_rule, room_rule, count_rules, row_key_rule, row_len_rule, row_rules}
use Rattle.ob_check.specs.Rules.{stash_rules, rules}
use Rattle.ob_check.proofs.KeptLaws.{have_leaves}
use Rattle.ob_check.proofs.Loose.{within, at_place}
use Rattle.ob_check.proofs.Members.{among_left, among_right, among_map, map_among, among_flat, flat_among, kept_passes, kept_low}
use Rattle.ob_cells.proofs.RuleLaws.{both_none}
use Rattle.ob_check.proofs.RuleLaws.{one_kept, parts_at}
use Rattle.ob_check.proofs.Passing.{both, either, off, le_from, lt_from, eq_from}
use Rattle.ob_check.proofs.VersionReads.{part, field64_low, key_is, key_there, key_at_is, key_within, spells}

-- the rules are kept
pub record Kept (p : Params) (bytes : List ℕ) : Type 0 where
  pub counter : field_at w64 bytes 8 < 2 ^ p.levels
  pub leaves : HaveLeaves p bytes
  pub homes : (u : ℕ) → u < buckets p → byte_at bytes (bucket_place p u) ≤ 1
  pub keys : (u j : ℕ) → u < buckets p → j < p.real → may_stand p bytes u (placed_before p bytes u j) (number_in p bytes u j) ≡ true
  pub ranks : (u i : ℕ) → u < buckets p → i < width p → may_rank p (ranks_in p bytes u i) (rank_in p bytes u i) ≡ true
  pub marks : (u i : ℕ) → u < buckets p → i < width p → may_mark p (holds_key p bytes u i) (shown_in p bytes u i) (mark_in p bytes u i) ≡ true
  pub count : count_in p bytes ≡ length (loose_keys p bytes)
  pub room : count_in p bytes ≤ p.room
  pub row_keys : (i : ℕ) → i < length (loose_keys p bytes) → row_key_in p bytes i ≡ slice_index (loose_keys p bytes) i
  pub row_lens : (i : ℕ) → i < length (loose_keys p bytes) → row_len_in p bytes i ≤ 64

pub kept_of : (p : Params) (bytes : List ℕ) → first_broken (rules p bytes) ≡ None → Kept p bytes
kept_of p bytes none =
    let entries : List Rule = flat_map (entry_rules p bytes) (below p.keys) in
    let versions : List Rule = flat_map (bucket_rules p bytes) (below (buckets p)) in
    let a = both_none (counter_rules p bytes) (entries ++ (versions ++ stash_rules p bytes)) none in
    let b = both_none entries (versions ++ stash_rules p bytes) a.1 in
    let c = both_none versions (stash_rules p bytes) b.1 in
    let d = both_none (count_rules p bytes) (flat_map (row_rules p bytes) (below (length (loose_keys p bytes)))) c.1 in
    let many = one_kept (many_rule p bytes) (room_rule p bytes ∷ []) d.0 in
    let room = one_kept (room_rule p bytes) [] many.1 in
    let counter = one_kept (record { place = 8; kept = field_at w64 bytes 8; obeys = nat_lt (field_at w64 bytes 8) (2 ^ p.levels); least = 0 }) [] a.0 in
    record {
      counter = lt_from (field_at w64 bytes 8) (2 ^ p.levels) counter.0;
      leaves = have_leaves p bytes b.0;
      homes = λ u h. le_from (byte_at bytes (bucket_place p u)) 1 (one_kept (home_rule p bytes u) [] (both_none (home_rules p bytes u) (flat_map (key_rules p bytes u) (below p.real) ++ flat_map (index_rules p bytes u) (below (width p))) (parts_at (bucket_rules p bytes) (buckets p) u h c.0)).0).0;
      keys = λ u j h k. (one_kept (key_rule p bytes u j) [] (parts_at (key_rules p bytes u) p.real j k (keys_part u h c.0).0)).0;
      ranks = λ u i h k. (one_kept (rank_rule p bytes u i) (mark_rule p bytes u i ∷ []) (parts_at (index_rules p bytes u) (width p) i k (keys_part u h c.0).1)).0;
      marks = λ u i h k. (one_kept (mark_rule p bytes u i) [] (one_kept (rank_rule p bytes u i) (mark_rule p bytes u i ∷ []) (parts_at (index_rules p bytes u) (width p) i k (keys_part u h c.0).1)).1).0;
      count = eq_from (count_in p bytes) (length (loose_keys p bytes)) many.0;
      room = le_from (count_in p bytes) p.room room.0;
      row_keys = λ i h. eq_from (row_key_in p bytes i) _ (one_kept (row_key_rule p bytes i) (row_len_rule p bytes i ∷ []) (parts_at (row_rules p bytes) (length (loose_keys p bytes)) i h d.1)).0;
      row_lens = λ i h. le_from (row_len_in p bytes i) 64 (one_kept (row_len_rule p bytes i) [] (one_kept (row_key_rule p bytes i) (row_len_rule p bytes i ∷ []) (parts_at (row_rules p bytes) (length (loose_keys p bytes)) i h d.1)).1).0;
    }
  where
    keys_part : (u : ℕ) → u < buckets p → first_broken (flat_map (bucket_rules p bytes) (below (buckets p))) ≡ None
        → (first_broken (flat_map (key_rules p bytes u) (below p.real)) ≡ None) × (first_broken (flat_map (index_rules p bytes u) (below (width p))) ≡ None)
    keys_part u h all = both_none (flat_map (key_rules p bytes u) (below p.real)) (flat_map (index_rules p bytes u) (below (width p)))
        (both_none (home_rules p bytes u) (flat_map (key_rules p bytes u) (below p.real) ++ flat_map (index_rules p bytes u) (below (width p))) (parts_at (bucket_rules p bytes) (buckets p) u h all)).1

-- ---- a row by its key

some≢none : {X : Type 0} {x : X} → ◌≡◌ {A = Option X} (Some x) None → ⊥
some≢none e = cc

pub found_at : (k : ℕ) (xs : List (ℕ × List ℕ)) (v : List ℕ) → find nat_cmp k xs ≡ Some v → (i : ℕ) × (i < length xs) × ((get_or xs i (0, [])).0 ≡ k) × ((get_or xs i (0, [])).1 ≡ v)
found_at k [] v is = absurd (some≢none (sym is))
found_at k (x ∷ xs) v is = elim (cases_eq k x.0) [
  | inl same ↦ (0, omega arith, sym same, some_of (sym (rw (sym same, ties k) refl) ∙ is))
  | inr ne ↦ (let r = found_at k xs v (sym (rw (differs k x.0 ne) refl) ∙ is) in (suc r.0, (let l : r.0 < length xs = r.1 in omega arith), r.2, r.3))
]
  where
    some_of : {a b : List ℕ} → Some a ≡ Some b → a ≡ b
    some_of e = cc

found_here : (k : ℕ) (x : ℕ × List ℕ) (xs : List (ℕ × List ℕ)) → k ≡ x.0 → find nat_cmp k (x ∷ xs) ≡ Some x.1
found_here k x xs same = rw (same, ties x.0) refl

found_later : (k : ℕ) (x : ℕ × List ℕ) (xs : List (ℕ × List ℕ)) → k ≢ x.0 → find nat_cmp k (x ∷ xs) ≡ find nat_cmp k xs
found_later k x xs ne = rw (differs k x.0 ne) refl

pub there_at : (xs : List (ℕ × List ℕ)) (i : ℕ) → i < length xs → find nat_cmp (get_or xs i (0, [])).0 xs ≢ None
there_at [] i lt = λ none. absurd (omega arith)
there_at (x ∷ xs) zero lt = λ none. some≢none (sym (found_here x.0 x xs refl) ∙ none)
there_at (x ∷ xs) (suc i) lt = λ none. elim (cases_eq (get_or xs i (0, [])).0 x.0) [
  | inl same ↦ some≢none (sym (found_here (get_or xs i (0, [])).0 x xs same) ∙ none)
  | inr ne ↦ there_at xs i (omega arith) (sym (found_later (get_or xs i (0, [])).0 x xs ne) ∙ none)
]

some_of_not : {X : Type 0} (o : Option X) → o ≢ None → (x : X) × (o ≡ Some x)
some_of_not None ne = absurd (ne refl)
some_of_not (Some x) ne = (x, refl)

-- ---- what bytes tell

entry_case : (b : Bool) (bytes : List ℕ) (k : ℕ) (e : Entry) → is_present bytes k ≡ b → entry_in bytes k ≡ Some e
    → (is_present bytes k ≡ true) × (e ≡ record { generation = field_at w64 bytes (entry_place k + 1); index = field_at w64 bytes (entry_place k + 9); leaf = leaf_in bytes k })
entry_case true bytes k e on is = (on, sym (some_of (sym (ap (λ (b : Bool). cond b (Some (told bytes k)) None) on) ∙ is)))
  where
    told : List ℕ → ℕ → Entry
    told bytes k = record { generation = field_at w64 bytes (entry_place k + 1); index = field_at w64 bytes (entry_place k + 9); leaf = leaf_in bytes k }

    some_of : {a b : Entry} → Some a ≡ Some b → a ≡ b
    some_of e = cc
entry_case false bytes k e on is = absurd (some≢none (sym is ∙ ap (λ (b : Bool). cond b (Some (record { generation = field_at w64 bytes (entry_place k + 1); index = field_at w64 bytes (entry_place k + 9); leaf = leaf_in bytes k })) None) on))

present_in : (bytes : List ℕ) (k : ℕ) → is_present bytes k ≡ true → entry_in bytes k ≡ Some (record { generation = field_at w64 bytes (entry_place k + 1); index = field_at w64 bytes (entry_place k + 9); leaf = leaf_in bytes k })
present_in bytes k on = ap (λ (b : Bool). cond b (Some (record { generation = field_at w64 bytes (entry_place k + 1); index = field_at w64 bytes (entry_place k + 9); leaf = leaf_in bytes k })) None) on

module _ (p : Params) (bytes : List ℕ) (low : (i : ℕ) → get_or bytes i 0 < 256) (long : length bytes ≡ checkpoint_len p) (kept : Kept p bytes) where
  abbrev versions : List Version
  versions = map (version_in p bytes) (below (buckets p))

  abbrev book : List (Option Entry)
  book = map (entry_in bytes) (below p.keys)

  pub version_is : (u : ℕ) → u < buckets p → version_at versions u ≡ version_in p bytes u
  version_is u h = get_or-map-range_with_len (version_in p bytes) 0 (buckets p) u u no_version h (omega arith)

  pub spelled_in : (u : ℕ) (h : u < buckets p) → Spells p (part p bytes low long u h) (version_in p bytes u)
  spelled_in u h = spells p bytes low long u h (λ i k. kept.ranks u i h k) (λ i k. kept.marks u i h k) (kept.homes u h)

  entry_is : (k : ℕ) → k < p.keys → entry_at book k ≡ entry_in bytes k
  entry_is k h = get_or-map-range_with_len (entry_in bytes) 0 p.keys k k None h (omega arith)

  entry_low : (k : ℕ) → entry_at book k ≢ None → k < p.keys
  entry_low k is = elim (cases_lt k p.keys) [
    | inl lt ↦ lt
    | inr ge ↦ absurd (is (get_or_past book k None (omega (arith, length-map-range_with_len (entry_in bytes) 0 p.keys))))
  ]

  entry_present : (k : ℕ) → k < p.keys → entry_at book k ≢ None → is_present bytes k ≡ true
  entry_present k h is = let e = some_of_not (entry_at book k) is in (entry_case (is_present bytes k) bytes k e.0 refl (sym (entry_is k h) ∙ e.1)).0

  fits : FitsBook p book
  fits = record {
    many = length-map-range_with_len (entry_in bytes) 0 p.keys;
    entries = λ k e is. (
        let h : k < p.keys = entry_low k (λ none. some≢none (sym is ∙ none)) in
        let told = entry_case (is_present bytes k) bytes k e refl (sym (entry_is k h) ∙ is) in
        let leaf : leaf_in bytes k < 2 ^ p.levels = kept.leaves k h told.0 in
        subst (λ (x : Entry). FitsEntry p x) (sym told.1) (record { generation = field64_low bytes (entry_place k + 1) low; index = field64_low bytes (entry_place k + 9) low; leaf = leaf }));
  }

  -- where a key lies
  record IsPlace (u j k : ℕ) : Type 0 where
    bucket : u < buckets p
    index : j < p.real
    number : number_in p bytes u j ≡ k
    some : k ≢ EMPTY

  place_of : (u j k : ℕ) → key_at (version_at versions u) j ≡ Some k → IsPlace u j k
  place_of u j k at = elim (cases_lt u (buckets p)) [
    | inl h ↦ (
        let at' : key_at (version_in p bytes u) j ≡ Some k = sym (ap (λ (v : Version). key_at v j) (version_is u h)) ∙ at in
        let index : j < p.real = key_within p bytes low long u h (λ i k. kept.ranks u i h k) (λ i k. kept.marks u i h k) j k at' in
        let n = key_is (number_in p bytes u j) k (sym (key_at_is p bytes low long u h (λ i k. kept.ranks u i h k) (λ i k. kept.marks u i h k) j index) ∙ at') in
        record { bucket = h; index = index; number = n.0; some = λ e. n.1 (n.0 ∙ e) })
    | inr ge ↦ absurd (some≢none (sym at ∙ ap (λ (v : Version). key_at v j) (get_or_past versions u no_version (omega (arith, length-map-range_with_len (version_in p bytes) 0 (buckets p)))) ∙ refl))
  ]

  key_placed : (u j k : ℕ) → u < buckets p → j < p.real → number_in p bytes u j ≡ k → k ≢ EMPTY → key_at (version_at versions u) j ≡ Some k
  key_placed u j k h i is ne =
      ap (λ (v : Version). key_at v j) (version_is u h) ∙ key_at_is p bytes low long u h (λ i k. kept.ranks u i h k) (λ i k. kept.marks u i h k) j i ∙ ap key_of is ∙ key_there k ne

  record MayLie (u j k : ℕ) : Type 0 where
    few : k < p.keys
    present : is_present bytes k ≡ true
    passing : passes p u (leaf_in bytes k) ≡ true
    alone : is_among (placed_before p bytes u j) k ≡ false

  lies : (u j k : ℕ) → IsPlace u j k → MayLie u j k
  lies u j k at =
      let rule : may_stand p bytes u (placed_before p bytes u j) k ≡ true = ap (may_stand p bytes u (placed_before p bytes u j)) (sym at.number) ∙ kept.keys u j at.bucket at.index in
      elim (either (k == EMPTY) (nat_lt k p.keys && may_lie p bytes u (placed_before p bytes u j) k) rule) [
        | inl e ↦ absurd (at.some (eq_from k EMPTY e))
        | inr e ↦ (
            let a = both (nat_lt k p.keys) (may_lie p bytes u (placed_before p bytes u j) k) e in
            let b = both (is_present bytes k) (passes p u (leaf_in bytes k) && not (is_among (placed_before p bytes u j) k)) a.1 in
            let c = both (passes p u (leaf_in bytes k)) (not (is_among (placed_before p bytes u j) k)) b.1 in
            record { few = lt_from k p.keys a.0; present = b.0; passing = c.0; alone = off (is_among (placed_before p bytes u j) k) c.1 })
      ]

  keys_of : (u j k : ℕ) → key_at (version_at versions u) j ≡ Some k → IsKeyOf p book u k
  keys_of u j k at =
      let m = lies u j k (place_of u j k at) in
      record {
        entry = record { generation = field_at w64 bytes (entry_place k + 1); index = field_at w64 bytes (entry_place k + 9); leaf = leaf_in bytes k };
        kept = entry_is k m.few ∙ present_in bytes k m.present;
        on_path = m.passing;
      }

  -- an earlier place
  earlier : (u v i j k : ℕ) → IsPlace u i k → IsPlace v j k → (u < v) ⊎ ((u ≡ v) × (i < j)) → ⊥
  earlier u v i j k a b (inl less) =
      true≢false (sym (among_left (placed_in p bytes v) (numbers_in p bytes v j) k (among_flat (λ w. numbers_in p bytes w p.real) v u k less (among_map (number_in p bytes u) p.real i k a.index a.number))) ∙ (lies v j k b).alone)
  earlier u v i j k a b (inr (same, less)) =
      let is : number_in p bytes v i ≡ k = ap (λ w. number_in p bytes w i) (sym same) ∙ a.number in
      true≢false (sym (among_right (placed_in p bytes v) (numbers_in p bytes v j) k (among_map (number_in p bytes v) j i k less is)) ∙ (lies v j k b).alone)

  once : (k u v i j : ℕ) → key_at (version_at versions u) i ≡ Some k → key_at (version_at versions v) j ≡ Some k → (u ≡ v) × (i ≡ j)
  once k u v i j at to =
      let a = place_of u i k at in
      let b = place_of v j k to in
      elim (cases_eq u v) [
        | inl same ↦ (
          same,
          elim (cases_eq i j) [
            | inl is ↦ is
            | inr ne ↦ elim (cases_lt i j) [
              | inl less ↦ absurd (earlier u v i j k a b (inr (same, less)))
              | inr more ↦ absurd (earlier v u j i k b a (inr (sym same, (let l : j < i = omega arith in l))))
            ]
          ],
        )
        | inr ne ↦ elim (cases_lt u v) [
          | inl less ↦ absurd (earlier u v i j k a b (inl less))
          | inr more ↦ absurd (earlier v u j i k b a (inl (let l : v < u = omega arith in l)))
        ]
      ]

  -- ---- the stash

  loose_to : (k : ℕ) → k < p.keys → IsLoose versions k → is_among (placed_in p bytes (buckets p)) k ≡ false
  loose_to k lt loose = elim (is_among (placed_in p bytes (buckets p)) k) as (λ b. is_among (placed_in p bytes (buckets p)) k ≡ b → b ≡ false) [
    | true ↦ λ e. absurd (
        let u = flat_among (λ w. numbers_in p bytes w p.real) (buckets p) k e in
        let j = map_among (number_in p bytes u.0) p.real k u.2 in
        let few : p.keys ≤ 65536 = p.in_range.few_keys in
        loose u.0 j.0 (key_placed u.0 j.0 k u.1 j.1 j.2 (omega arith)))
    | false ↦ λ e. refl
  ] refl

  loose_from : (k : ℕ) → is_among (placed_in p bytes (buckets p)) k ≡ false → IsLoose versions k
  loose_from k free = λ u j at. (
      let a = place_of u j k at in
      true≢false (sym (among_flat (λ w. numbers_in p bytes w p.real) (buckets p) u k a.bucket (among_map (number_in p bytes u) p.real j k a.index a.number)) ∙ free))

  -- the rows, by their keys
  abbrev rows_in : List (ℕ × List ℕ)
  rows_in = map (row_in p bytes) (below (count_in p bytes))

  rows_long : length rows_in ≡ count_in p bytes
  rows_long = length-map-range_with_len (row_in p bytes) 0 (count_in p bytes)

  row_is : (i : ℕ) → i < count_in p bytes → get_or rows_in i (0, []) ≡ row_in p bytes i
  row_is i h = get_or-map-range_with_len (row_in p bytes) 0 (count_in p bytes) i i (0, []) h (omega arith)

  below_low : (n j : ℕ) → j < length (below n) → get_or (below n) j 0 < n
  below_low n j h = let l : j < n = omega (arith, length-range_with_len 0 n) in let e : get_or (below n) j 0 ≡ 0 + j = get_or-range_with_len 0 n j 0 l in omega arith

  row_key : (i : ℕ) → i < count_in p bytes → (is_loose p bytes (row_key_in p bytes i) ≡ true) × (row_key_in p bytes i < p.keys)
  row_key i h =
      let l : i < length (loose_keys p bytes) = (let c = kept.count in omega arith) in
      let e : row_key_in p bytes i ≡ slice_index (loose_keys p bytes) i = kept.row_keys i l in
      let few : slice_index (loose_keys p bytes) i < p.keys = kept_low (is_loose p bytes) p.keys (below p.keys) (below_low p.keys) i l in
      (ap (is_loose p bytes) e ∙ kept_passes (is_loose p bytes) (below p.keys) i l, omega arith)

  row_there : (k : ℕ) → k < p.keys → is_loose p bytes k ≡ true → (i : ℕ) × (i < count_in p bytes) × (row_key_in p bytes i ≡ k)
  row_there k h on =
      let i : ℕ = length (filter (is_loose p bytes) (below k)) in
      let l : i < length (loose_keys p bytes) = within (is_loose p bytes) p.keys k h on in
      (i, (let c = kept.count in let g : i < count_in p bytes = omega arith in g), kept.row_keys i l ∙ at_place (is_loose p bytes) p.keys k h on)

  got : (k : ℕ) → finite.get (finite.from_entries {R = nat_cmp} rows_in) k ≡ find nat_cmp k rows_in
  got k = finite.get-from_entries nat_cmp_total rows_in k

  stash_to : (k : ℕ) → finite.get (finite.from_entries {R = nat_cmp} rows_in) k ≢ None → (entry_at book k ≢ None) × IsLoose versions k
  stash_to k is =
      let v = some_of_not (find nat_cmp k rows_in) (λ none. is (got k ∙ none)) in
      let f = found_at k rows_in v.0 v.1 in
      let h : f.0 < count_in p bytes = (let l : f.0 < length rows_in = f.1 in omega (arith, rows_long)) in
      let key : row_key_in p bytes f.0 ≡ k = sym (ap (λ (r : ℕ × List ℕ). r.0) (row_is f.0 h)) ∙ f.2 in
      let r = row_key f.0 h in
      let on : is_loose p bytes k ≡ true = ap (is_loose p bytes) (sym key) ∙ r.0 in
      let few : k < p.keys = subst (λ n. n < p.keys) key r.1 in
      let b = both (is_present bytes k) (not (is_among (placed_in p bytes (buckets p)) k)) on in
      (λ none. some≢none (sym (entry_is k few ∙ present_in bytes k b.0) ∙ none), loose_from k (off (is_among (placed_in p bytes (buckets p)) k) b.1))

  stash_from : (k : ℕ) → (entry_at book k ≢ None) × IsLoose versions k → finite.get (finite.from_entries {R = nat_cmp} rows_in) k ≢ None
  stash_from k (is, loose) = λ none.
      let few : k < p.keys = entry_low k is in
      let on : is_loose p bytes k ≡ true = rw (entry_present k few is, loose_to k few loose) refl in
      let r = row_there k few on in
      let h : r.0 < length rows_in = (let l : r.0 < count_in p bytes = r.1 in omega (arith, rows_long)) in
      let key : (get_or rows_in r.0 (0, [])).0 ≡ k = ap (λ (x : ℕ × List ℕ). x.0) (row_is r.0 r.1) ∙ r.2 in
      there_at rows_in r.0 h (ap (λ n. find nat_cmp n rows_in) key ∙ sym (got k) ∙ none)

  stash_short : (k : ℕ) (value : List ℕ) → finite.get (finite.from_entries {R = nat_cmp} rows_in) k ≡ Some value → length value ≤ 64
  stash_short k value is =
      let f = found_at k rows_in value (sym (got k) ∙ is) in
      let h : f.0 < count_in p bytes = (let l : f.0 < length rows_in = f.1 in omega (arith, rows_long)) in
      let v : row_value_in p bytes f.0 ≡ value = sym (ap (λ (r : ℕ × List ℕ). r.1) (row_is f.0 h)) ∙ f.3 in
      let few : row_len_in p bytes f.0 ≤ 64 = kept.row_lens f.0 (let c = kept.count in omega arith) in
      let le : length (row_value_in p bytes f.0) ≤ row_len_in p bytes f.0 = take_few (row_len_in p bytes f.0) _ in
      let e : length (row_value_in p bytes f.0) ≡ length value = ap length v in
      omega arith
    where
      take_few : (n : ℕ) (xs : List ℕ) → length (take n xs) ≤ n
      take_few n xs = omega (arith, length-take n xs)

  len_few : (es : List (ℕ × List ℕ)) → finite.len (finite.from_entries {R = nat_cmp} es) ≤ length es
  len_few [] = omega (arith, finite.len-empty nat_cmp (List ℕ))
  len_few (e ∷ es) =
      let le : finite.len (finite.from_entries {R = nat_cmp} es) ≤ length es = len_few es in
      one_more (finite.contains_key (finite.from_entries {R = nat_cmp} es) e.0) _ _ le (finite.len-insert nat_cmp_total (finite.from_entries {R = nat_cmp} es) e.0 e.1)
    where
      one_more : (b : Bool) (m n : ℕ) → m ≤ length es → n ≡ cond b m (m + 1) → n ≤ suc (length es)
      one_more true m n le is = omega arith
      one_more false m n le is = omega arith

  pub obeys : Obeys p (content_in p bytes)
  obeys = record {
    counter = kept.counter;
    book = fits;
    many = length-map-range_with_len (version_in p bytes) 0 (buckets p);
    versions = λ u h. subst (λ (v : Version). bucket.VersionObeys p v) (sym (version_is u h)) (spelled_in u h).obeys;
    seals = λ u h. subst (λ (v : Version). FitsSeals v) (sym (version_is u h)) (record { generation = (spelled_in u h).fits.generation; base = (spelled_in u h).fits.base });
    keys = keys_of;
    once = once;
    stash = λ k. (stash_to k, stash_from k);
    short = stash_short;
    few = (let r = kept.room in let l = len_few rows_in in omega (arith, rows_long));
  }
