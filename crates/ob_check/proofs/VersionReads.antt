-- The version that a bucket's bytes tell, where its rules are kept.
use Rattle.std.specs.Prelude.{◌≡◌, ◌≢◌, ◌<◌, ◌≤◌, ℕ, ◌+◌, ◌-◌, ◌*◌, ◌^◌, ◌==◌, Bool, true, false, cond, List, [], ◌∷◌, ◌++◌, map, take, drop, length, slice_index, slice_index_or, Some, None}
use Rattle.std.specs.List.{count_by}
use Rattle.std.specs.Int.{w32, w64, to_le_bytes, from_le_bytes}
use Rattle.std.proofs.Common.{zero, suc, arith, refl, sym, ap, subst, ◌∙◌, inl, inr, get_or, length-drop}
use Rattle.std.proofs.lemmas.Bool.{cases_eq, cases_lt, ne_eqb, eq-eqb, true≢false}
use Rattle.std.proofs.lemmas.List.{drop-take, get_or-take, get_or-drop, drop-drop, length-take-le, get_or_past}
use Rattle.std.proofs.lemmas.List.FromFn.{length-map-range_with_len, get_or-map-range_with_len}
use Rattle.std.proofs.lemmas.List.Sums.{sum_by_push}
use Rattle.ob_base.specs.declared.params.Params.{Params}
use Rattle.ob_base.specs.Layout.{checkpoint_len, meta_len}
use Rattle.ob_base.specs.LittleEndian.{field_at}
use Rattle.ob_base.proofs.Spelled.{low_part}
use Rattle.ob_base.specs.Tree.{buckets, width, below}
use Rattle.ob_tables.specs.Version.{HasSlots, AreRanks, IsUnshown, MarksObey, ReadsVersion, Spells, EMPTY, key_bytes}
use Rattle.ob_tables.proofs.Counting.{count_by-range_more}
use Rattle.ob_tables.proofs.SpellingLaws.{KeysRead, keys_read_none, keys_read_more, IndexesRead, indexes_read_none, indexes_read_more, reads_are, obeyed}
use Rattle.ob_check.specs.Fields.{bucket_place, key_place, number_in, rank_in, mark_in, byte_at}
use Rattle.ob_check.specs.Reading.{key_of, version_in}
use Rattle.ob_check.specs.Rules.{is_among, ranks_in, shown_in, holds_key, may_rank, may_mark}
use Rattle.ob_check.proofs.PlaceLaws.{bucket_within}
use Rattle.ob_check.proofs.Ranges.{map_up, any_at}
use Rattle.ob_check.proofs.MarkLaws.{shown_more}
use Rattle.ob_check.proofs.Passing.{both, either, off, lt_from, eq_from, lt_to}

-- ---- a part of the bytes

pub take_low : (n m : ℕ) (xs : List ℕ) → n ≤ m → take n (take m xs) ≡ take n xs
take_low zero m xs le = refl
take_low (suc n) zero xs le = absurd (omega arith)
take_low (suc n) (suc m) [] le = refl
take_low (suc n) (suc m) (x ∷ xs) le = ap (λ (ys : List ℕ). x ∷ ys) (take_low n m xs (omega arith))

pub part_in : (bytes : List ℕ) (at m i n : ℕ) → i + n ≤ m → take n (drop i (take m (drop at bytes))) ≡ take n (drop (at + i) bytes)
part_in bytes at m i n fits =
    let e : m ≡ i + (m - i) = omega arith in
    ap (λ k. take n (drop i (take k (drop at bytes)))) e ∙ ap (take n) (drop-take i (m - i) (drop at bytes)) ∙ take_low n (m - i) (drop i (drop at bytes)) (omega arith) ∙ ap (take n) (drop-drop i at bytes)

pub byte_in : (bytes : List ℕ) (at m i : ℕ) → i < m → get_or (take m (drop at bytes)) i 0 ≡ get_or bytes (at + i) 0
byte_in bytes at m i lt = get_or-take m (drop at bytes) i 0 lt ∙ get_or-drop at bytes i 0

-- fields are in range
pub field32_low : (bytes : List ℕ) (at : ℕ) → ((i : ℕ) → get_or bytes i 0 < 256) → field_at w32 bytes at < 2 ^ 32
field32_low bytes at low =
    let part : List ℕ = take 4 (drop at bytes) in
    let a : get_or part 0 0 < 256 = low_part bytes at 4 low 0 in
    let b : get_or part 1 0 < 256 = low_part bytes at 4 low 1 in
    let c : get_or part 2 0 < 256 = low_part bytes at 4 low 2 in
    let d : get_or part 3 0 < 256 = low_part bytes at 4 low 3 in
    omega arith

pub field64_low : (bytes : List ℕ) (at : ℕ) → ((i : ℕ) → get_or bytes i 0 < 256) → field_at w64 bytes at < 2 ^ 64
field64_low bytes at low =
    let part : List ℕ = take 8 (drop at bytes) in
    let a : get_or part 0 0 < 256 = low_part bytes at 8 low 0 in
    let b : get_or part 1 0 < 256 = low_part bytes at 8 low 1 in
    let c : get_or part 2 0 < 256 = low_part bytes at 8 low 2 in
    let d : get_or part 3 0 < 256 = low_part bytes at 8 low 3 in
    let e : get_or part 4 0 < 256 = low_part bytes at 8 low 4 in
    let f : get_or part 5 0 < 256 = low_part bytes at 8 low 5 in
    let g : get_or part 6 0 < 256 = low_part bytes at 8 low 6 in
    let h : get_or part 7 0 < 256 = low_part bytes at 8 low 7 in
    omega arith

-- ---- a key's number

number_of : (b : Bool) (n : ℕ) → (n == EMPTY) ≡ b → key_bytes (key_of n) ≡ to_le_bytes w32 n
number_of true n e = rw e (ap (to_le_bytes w32) (sym (eq_from n EMPTY e)))
number_of false n e = rw e refl

pub number_spelled : (n : ℕ) → key_bytes (key_of n) ≡ to_le_bytes w32 n
number_spelled n = number_of (n == EMPTY) n refl

none≢some : {k : ℕ} → None ≡ Some k → ⊥
none≢some e = cc

key_case : (b : Bool) (n k : ℕ) → (n == EMPTY) ≡ b → key_of n ≡ Some k → (n ≡ k) × (n ≢ EMPTY)
key_case true n k e is = absurd (none≢some (sym (ap (λ (b : Bool). cond b None (Some n)) e) ∙ is))
key_case false n k e is = (some_of (sym (ap (λ (b : Bool). cond b None (Some n)) e) ∙ is), λ same. true≢false (sym (eq-eqb n EMPTY same) ∙ e))
  where
    some_of : {a b : ℕ} → Some a ≡ Some b → a ≡ b
    some_of e = cc

pub key_is : (n k : ℕ) → key_of n ≡ Some k → (n ≡ k) × (n ≢ EMPTY)
key_is n k is = key_case (n == EMPTY) n k refl is

pub key_there : (n : ℕ) → n ≢ EMPTY → key_of n ≡ Some n
key_there n ne = ap (λ (b : Bool). cond b None (Some n)) (ne_eqb n EMPTY ne)

-- ---- counting

pub count_map : (q : ℕ → Bool) (n : ℕ) → count_by (λ u. u) (map q (below n)) ≡ count_by q (below n)
count_map q zero = refl
count_map q (suc n) =
    let e : suc n ≡ n + 1 = omega arith in
    ap (λ m. count_by (λ u. u) (map q (below m))) e ∙ ap (count_by (λ u. u)) (map_up q n) ∙ sum_by_push (λ (u : Bool). cond u 1 0) (map q (below n)) (q n)
    ∙ ap (λ m. m + cond (q n) 1 0) (count_map q n) ∙ sym (ap (λ m. count_by q (below m)) e ∙ count_by-range_more q n)

-- ---- a bucket

module _ (p : Params) (bytes : List ℕ) (low : (i : ℕ) → get_or bytes i 0 < 256) (long : length bytes ≡ checkpoint_len p) (u : ℕ) (lt : u < buckets p) where
  abbrev pub part : List ℕ
  part = take (meta_len p) (drop (bucket_place p u) bytes)

  pub part_long : length part ≡ meta_len p
  part_long = length-take-le (meta_len p) (drop (bucket_place p u) bytes) (omega (arith, length-drop (bucket_place p u) bytes, bucket_within p u lt))

  number_at : (j : ℕ) → j < p.real → number_in p bytes u j ≡ field_at w32 part (17 + 4 * j)
  number_at j h =
      let at : bucket_place p u + 17 + 4 * j ≡ bucket_place p u + (17 + 4 * j) = omega arith in
      sym (ap (from_le_bytes w32) (part_in bytes (bucket_place p u) (meta_len p) (17 + 4 * j) 4 (omega arith) ∙ ap (λ n. take 4 (drop n bytes)) (sym at)))

  keys_in : (j : ℕ) → j ≤ p.real → KeysRead part j (map (λ i. key_of (number_in p bytes u i)) (below j))
  keys_in zero le = keys_read_none part
  keys_in (suc j) le =
      let e : suc j ≡ j + 1 = omega arith in
      let one : KeysRead part (j + 1) (map (λ i. key_of (number_in p bytes u i)) (below j) ++ key_of (number_in p bytes u j) ∷ []) =
      keys_read_more part j (number_in p bytes u j) (map (λ i. key_of (number_in p bytes u i)) (below j)) (key_of (number_in p bytes u j)) (low_part bytes (bucket_place p u) (meta_len p) low) (omega (arith, part_long))
      (number_at j (omega arith)) (number_spelled (number_in p bytes u j)) (λ k is.
      (let n : (number_in p bytes u j ≡ k) × (number_in p bytes u j ≢ EMPTY) = key_is (number_in p bytes u j) k is in let ne : number_in p bytes u j ≢ EMPTY = n.1 in let same : number_in p bytes u j ≡ k = n.0 in let l : number_in p bytes u j < 2 ^ 32
      = field32_low bytes (key_place p u j) low in omega arith)) (keys_in j (omega arith)) in
      subst (λ n. KeysRead part n (map (λ i. key_of (number_in p bytes u i)) (below n))) (sym e) (subst (KeysRead part (j + 1)) (sym (map_up (λ i. key_of (number_in p bytes u i)) j)) one)

  index_at : (i : ℕ) → i < width p → (rank_in p bytes u i ≡ get_or part (17 + 4 * p.real + 2 * i) 0) × (mark_in p bytes u i ≡ get_or part (17 + 4 * p.real + 2 * i + 1) 0)
  index_at i h =
      let at : bucket_place p u + 17 + 4 * p.real + 2 * i ≡ bucket_place p u + (17 + 4 * p.real + 2 * i) = omega arith in
      let on : bucket_place p u + 17 + 4 * p.real + 2 * i + 1 ≡ bucket_place p u + (17 + 4 * p.real + 2 * i + 1) = omega arith in (
        ap (λ n. get_or bytes n 0) at ∙ sym (byte_in bytes (bucket_place p u) (meta_len p) (17 + 4 * p.real + 2 * i) (omega arith)),
        ap (λ n. get_or bytes n 0) on ∙ sym (byte_in bytes (bucket_place p u) (meta_len p) (17 + 4 * p.real + 2 * i + 1) (omega arith)),
      )

  -- the rules of its indexes are kept
  module _ (ranks : (i : ℕ) → i < width p → may_rank p (ranks_in p bytes u i) (rank_in p bytes u i) ≡ true)
      (marks : (i : ℕ) → i < width p → may_mark p (holds_key p bytes u i) (shown_in p bytes u i) (mark_in p bytes u i) ≡ true) where
    mark_low : (i : ℕ) → i < width p → mark_in p bytes u i ≤ 1
    mark_low i h = elim (either (mark_in p bytes u i == 0) _ (marks i h)) [
      | inl e ↦ (let z : mark_in p bytes u i ≡ 0 = eq_from (mark_in p bytes u i) 0 e in omega arith)
      | inr e ↦ (let o : mark_in p bytes u i ≡ 1 = eq_from (mark_in p bytes u i) 1 (both _ _ e).0 in omega arith)
    ]

    indexes_in : (j : ℕ) → j ≤ width p → IndexesRead part (17 + 4 * p.real) j (ranks_in p bytes u j) (map (λ i. mark_in p bytes u i == 1) (below j))
    indexes_in zero le = indexes_read_none part (17 + 4 * p.real)
    indexes_in (suc j) le =
        let e : suc j ≡ j + 1 = omega arith in
        let at = index_at j (omega arith) in
        let one : IndexesRead part (17 + 4 * p.real) (j + 1) (ranks_in p bytes u j ++ rank_in p bytes u j ∷ []) (map (λ i. mark_in p bytes u i == 1) (below j) ++ (mark_in p bytes u j == 1) ∷ []) =
        indexes_read_more part (17 + 4 * p.real) j (rank_in p bytes u j) (mark_in p bytes u j) (mark_in p bytes u j == 1) (ranks_in p bytes u j) (map (λ i. mark_in p bytes u i == 1) (below j)) (omega (arith, part_long)) at.0 at.1 (mark_low j (omega arith)) refl (indexes_in j (omega arith)) in
        subst (λ n. IndexesRead part (17 + 4 * p.real) n (ranks_in p bytes u n) (map (λ i. mark_in p bytes u i == 1) (below n))) (sym e)
        (subst (λ (rs : List ℕ). IndexesRead part (17 + 4 * p.real) (j + 1) rs (map (λ i. mark_in p bytes u i == 1) (below (j + 1)))) (sym (map_up (rank_in p bytes u) j))
        (subst (λ (us : List Bool). IndexesRead part (17 + 4 * p.real) (j + 1) (ranks_in p bytes u j ++ rank_in p bytes u j ∷ []) us) (sym (map_up (λ i. mark_in p bytes u i == 1) j)) one))

    pub slots : HasSlots p (version_in p bytes u)
    slots = record {
      keys = length-map-range_with_len (λ j. key_of (number_in p bytes u j)) 0 p.real;
      ranks = length-map-range_with_len (rank_in p bytes u) 0 (width p);
      used = length-map-range_with_len (λ i. mark_in p bytes u i == 1) 0 (width p);
    }

    field_part : (i : ℕ) → i + 8 ≤ meta_len p → field_at w64 bytes (bucket_place p u + i) ≡ field_at w64 part i
    field_part i fits = sym (ap (from_le_bytes w64) (part_in bytes (bucket_place p u) (meta_len p) i 8 fits))

    pub reads : byte_at bytes (bucket_place p u) ≤ 1 → ReadsVersion p part (version_in p bytes u)
    reads home =
        let k : KeysRead part p.real (version_in p bytes u).keys = keys_in p.real (omega arith) in
        let i : IndexesRead part (17 + 4 * p.real) (width p) (version_in p bytes u).ranks (version_in p bytes u).used = indexes_in (width p) (omega arith) in
        let first : bucket_place p u ≡ bucket_place p u + 0 = omega arith in
        reads_are p part (version_in p bytes u) (low_part bytes (bucket_place p u) (meta_len p) low) part_long slots
        (record { generation = field64_low bytes (bucket_place p u + 1) low; base = field64_low bytes (bucket_place p u + 9) low; keys = λ j n at. k.low j n at })
        (omega arith) (ap (λ n. get_or bytes n 0) first ∙ sym (byte_in bytes (bucket_place p u) (meta_len p) 0 (omega arith))) (field_part 1 (omega arith)) (field_part 9 (omega arith)) k.spelled i.spelled

    rank_at : (i : ℕ) → i < width p → slice_index (version_in p bytes u).ranks i ≡ rank_in p bytes u i
    rank_at i h = get_or-map-range_with_len (rank_in p bytes u) 0 (width p) i i 0 h (omega arith)

    not_before : (i j : ℕ) → i < j → j < width p → rank_in p bytes u i ≢ rank_in p bytes u j
    not_before i j h k e =
        let free : is_among (ranks_in p bytes u j) (rank_in p bytes u j) ≡ false = off _ (both _ _ (ranks j k)).1 in
        true≢false (sym (any_at (rank_in p bytes u) (λ y. y == rank_in p bytes u j) j i h (eq-eqb (rank_in p bytes u i) (rank_in p bytes u j) e)) ∙ free)

    pub are_ranks : AreRanks (version_in p bytes u).ranks
    are_ranks =
        let n : length (version_in p bytes u).ranks ≡ width p = slots.ranks in
        record {
          low = λ j h. (let k : j < width p = omega arith in let r : rank_in p bytes u j < width p = lt_from (rank_in p bytes u j) (width p) (both _ _ (ranks j k)).0 in omega (arith, rank_at j k));
          apart = λ i j h k e. (
              let a : i < width p = omega arith in
              let b : j < width p = omega arith in
              let same : rank_in p bytes u i ≡ rank_in p bytes u j = sym (rank_at i a) ∙ e ∙ rank_at j b in
              elim (cases_eq i j) [
                | inl is ↦ is
                | inr ne ↦ elim (cases_lt i j) [
                  | inl less ↦ absurd (not_before i j less b same)
                  | inr more ↦ absurd (not_before j i (omega arith) a (sym same))
                ]
              ]);
        }

    -- ---- marks

    used_is : (i : ℕ) → i < width p → slice_index_or (version_in p bytes u).used i false ≡ (mark_in p bytes u i == 1)
    used_is i h = get_or-map-range_with_len (λ n. mark_in p bytes u n == 1) 0 (width p) i i false h (omega arith)

    pub key_at_is : (j : ℕ) → j < p.real → slice_index_or (version_in p bytes u).keys j None ≡ key_of (number_in p bytes u j)
    key_at_is j h = get_or-map-range_with_len (λ n. key_of (number_in p bytes u n)) 0 p.real j j None h (omega arith)

    pub key_within : (j k : ℕ) → slice_index_or (version_in p bytes u).keys j None ≡ Some k → j < p.real
    key_within j k at = elim (cases_lt j p.real) [
      | inl lt ↦ lt
      | inr ge ↦ absurd (none≢some (sym (get_or_past (version_in p bytes u).keys j None (omega (arith, slots.keys))) ∙ at))
    ]

    holds_of : (j k : ℕ) → slice_index_or (version_in p bytes u).keys j None ≡ Some k → holds_key p bytes u j ≡ true
    holds_of j k at =
        let h : j < p.real = key_within j k at in
        let n = key_is (number_in p bytes u j) k (sym (key_at_is j h) ∙ at) in
        rw (lt_to j p.real h, ne_eqb (number_in p bytes u j) EMPTY n.1) refl

    unshown : IsUnshown (version_in p bytes u).keys (version_in p bytes u).used
    unshown j k at =
        let h : j < width p = (let r : j < p.real = key_within j k at in omega arith) in
        let rule = marks j h in
        used_is j h ∙ elim (either (mark_in p bytes u j == 0) _ rule) [
          | inl e ↦ (let z : mark_in p bytes u j ≡ 0 = eq_from (mark_in p bytes u j) 0 e in ne_eqb (mark_in p bytes u j) 1 (omega arith))
          | inr e ↦ absurd (true≢false (sym (holds_of j k at) ∙ off _ (both _ _ (both _ _ e).1).0))
        ]

    step : (b : Bool) (n : ℕ) → n < p.dummies → (b ≡ true → n + 1 < p.dummies) → n + cond b 1 0 < p.dummies
    step true n few more = more refl
    step false n few more = omega arith

    shown_few : (i : ℕ) → i ≤ width p → shown_in p bytes u i < p.dummies
    shown_few zero le = let d : 1 ≤ p.dummies = p.in_range.some_dummies in omega arith
    shown_few (suc i) le =
        let e : suc i ≡ i + 1 = omega arith in
        let before : shown_in p bytes u i < p.dummies = shown_few i (omega arith) in
        let more : (mark_in p bytes u i == 1) ≡ true → shown_in p bytes u i + 1 < p.dummies = λ on. elim (either (mark_in p bytes u i == 0) _ (marks i (omega arith))) [
          | inl z ↦ absurd (let a : mark_in p bytes u i ≡ 0 = eq_from (mark_in p bytes u i) 0 z in let b : mark_in p bytes u i ≡ 1 = eq_from (mark_in p bytes u i) 1 on in omega arith)
          | inr r ↦ lt_from (shown_in p bytes u i + 1) p.dummies (both _ _ (both _ _ r).1).1
        ] in
        let here : shown_in p bytes u i + cond (mark_in p bytes u i == 1) 1 0 < p.dummies = step (mark_in p bytes u i == 1) (shown_in p bytes u i) before more in
        subst (λ n. n < p.dummies) (sym (ap (shown_in p bytes u) e ∙ shown_more p bytes u i)) here

    pub are_marks : MarksObey p.dummies (version_in p bytes u).keys (version_in p bytes u).used
    are_marks = record {
      unshown = unshown;
      few = subst (λ n. n < p.dummies) (sym (count_map (λ i. mark_in p bytes u i == 1) (width p))) (shown_few (width p) (omega arith));
    }

    pub spells : byte_at bytes (bucket_place p u) ≤ 1 → Spells p part (version_in p bytes u)
    spells home = obeyed p part (version_in p bytes u) (reads home) are_ranks are_marks
