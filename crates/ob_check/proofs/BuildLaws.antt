-- Tables that are filled one after another.
use Rattle.std.specs.Prelude.{◌≡◌, ◌<◌, ◌≤◌, ℕ, ◌+◌, Bool, true, false, cond, List, [], ◌∷◌, ◌++◌, map, filter, take, drop, length, slice_index, slice_range, slice_set, Option, Some, None}
use Rattle.std.proofs.lemmas.Slice.{between_is}
use Rattle.std.specs.Int.{w64}
use Rattle.std.specs.Ordering.{nat_cmp}
use Rattle.std.specs.Cmp.{nat_cmp_total}
use Rattle.std.specs.FinMap as finite
use Rattle.std.specs.FinMap.{find}
use Rattle.std.proofs.Common.{zero, suc, arith, refl, sym, ap, subst, ◌∙◌, inl, inr, get_or, get_or-set_same, get_or-set_other, length-append}
use Rattle.std.proofs.lemmas.Bool.{cases_eq}
use Rattle.std.proofs.lemmas.List.{ext_get_or, length-set, drop-take}
use Rattle.std.proofs.lemmas.List.FromFn.{length-map-range_with_len, get_or-map-range_with_len, length-range_with_len}
use Rattle.ob_base.specs.declared.params.Params.{Params}
use Rattle.ob_base.specs.Layout.{meta_len}
use Rattle.ob_base.specs.LittleEndian.{field_at}
use Rattle.ob_base.specs.Tree.{below, buckets}
use Rattle.ob_tables.specs.Version.{Version, Spells}
use Rattle.ob_tables.proofs.SpellingLaws.{spelled_once}
use Rattle.ob_tables.specs.Buckets.{Buckets, no_version, with_version}
use Rattle.ob_tables.specs.declared.entry.Entry.{Entry}
use Rattle.ob_tables.specs.Kept.{Held}
use Rattle.ob_tables.specs.Content.{Content, Rows}
use Rattle.ob_check.specs.Fields.{bucket_place, count_in, row_key_in, row_value_in}
use Rattle.ob_check.specs.Reading.{entry_in, version_in, row_in, content_in}
use Rattle.ob_check.specs.Rules.{is_loose, loose_keys}
use Rattle.ob_check.proofs.ContentReads.{Kept, found_at}
use Rattle.ob_check.proofs.Members.{kept_few}
use Rattle.ob_check.proofs.Ranges.{map_up}
use Rattle.ob_check.proofs.Loose.{up_in, up_out, front_at, last_of}

-- ---- a list that is written at each place in turn

pub record Filled {X : Type 0} (f : ℕ → X) (d : X) (n i : ℕ) (xs : List X) : Type 0 where
  pub many : length xs ≡ n
  pub done : (j : ℕ) → j < i → get_or xs j d ≡ f j

module _ {X : Type 0} (f : ℕ → X) (d : X) (n : ℕ) where
  pub filled_none : (xs : List X) → length xs ≡ n → Filled f d n 0 xs
  filled_none xs long = record { many = long; done = λ j lt. absurd (omega arith) }

  pub filled_more : (i : ℕ) (xs : List X) (x : X) → i < n → x ≡ f i → Filled f d n i xs → Filled f d n (i + 1) (slice_set xs i x)
  filled_more i xs x lt is t = record {
    many = omega (arith, length-set xs i x, t.many);
    done = λ j below. elim (cases_eq j i) [
      | inl same ↦ ap (λ m. get_or (slice_set xs i x) m d) same ∙ get_or-set_same xs i x d (omega (arith, t.many)) ∙ is ∙ ap f (sym same)
      | inr ne ↦ get_or-set_other xs i j x d ne ∙ t.done j (omega arith)
    ];
  }

  pub filled_all : (i : ℕ) (xs : List X) → n ≤ i → Filled f d n i xs → xs ≡ map f (below n)
  filled_all i xs all t = ext_get_or d xs (map f (below n)) (t.many ∙ sym (length-map-range_with_len f 0 n))
      (λ j lt. (let l : j < n = omega (arith, t.many) in t.done j (omega arith) ∙ sym (get_or-map-range_with_len f 0 n j j d l (omega arith))))

pub set_as_is : {X : Type 0} (xs : List X) (k : ℕ) (x d : X) → k < length xs → get_or xs k d ≡ x → xs ≡ slice_set xs k x
set_as_is [] k x d lt is = absurd (omega arith)
set_as_is (y ∷ xs) zero x d lt is = ap (λ z. z ∷ xs) is
set_as_is (y ∷ xs) (suc k) x d lt is = ap (λ (zs : List _). y ∷ zs) (set_as_is xs k x d (omega arith) is)

-- ---- a bucket's bytes as a slice

pub part_same : (xs : List ℕ) (at at' n n' : ℕ) → at ≡ at' → n ≡ n' → slice_range xs at (at + n) ≡ take n' (drop at' xs)
part_same xs at at' n n' is long = between_is xs at (at + n) ∙ drop-take at n xs ∙ ap (λ m. take m (drop at xs)) long ∙ ap (λ m. take n' (drop m xs)) is

pub decode_not : (p : Params) (bytes : List ℕ) (w : Version) (u at n : ℕ) → at ≡ bucket_place p u → n ≡ meta_len p → Spells p (take (meta_len p) (drop (bucket_place p u) bytes)) w
    → ((v : Version) → Spells p (slice_range bytes at (at + n)) v → ⊥) → ⊥
decode_not p bytes w u at n is long spelled none = none w (subst (λ (xs : List ℕ). Spells p xs w) (sym (part_same bytes at (bucket_place p u) n (meta_len p) is long)) spelled)

pub decode_is : (p : Params) (bytes : List ℕ) (w v : Version) (u at n : ℕ) → at ≡ bucket_place p u → n ≡ meta_len p → Spells p (take (meta_len p) (drop (bucket_place p u) bytes)) w
    → Spells p (slice_range bytes at (at + n)) v → v ≡ w
decode_is p bytes w v u at n is long spelled here = spelled_once p (take (meta_len p) (drop (bucket_place p u) bytes)) v w (subst (λ (xs : List ℕ). Spells p xs v) (part_same bytes at (bucket_place p u) n (meta_len p) is long) here) spelled

-- ---- the keys of the stash's rows are different

module _ (q : ℕ → Bool) where
  pub index_of : (n i : ℕ) → i < length (filter q (below n)) → length (filter q (below (slice_index (filter q (below n)) i))) ≡ i
  index_of zero i lt = absurd (omega arith)
  index_of (suc n) i lt = go (q n) refl (λ j l. index_of n j l)
    where
      e : suc n ≡ n + 1
      e = omega arith

      go : (b : Bool) → q n ≡ b → ((j : ℕ) → j < length (filter q (below n)) → length (filter q (below (slice_index (filter q (below n)) j))) ≡ j) → length (filter q (below (slice_index (filter q (below (suc n))) i))) ≡ i
      go true on before =
          let same : filter q (below (suc n)) ≡ filter q (below n) ++ n ∷ [] = ap (λ m. filter q (below m)) e ∙ up_in q n on in
          let many : length (filter q (below (suc n))) ≡ length (filter q (below n)) + 1 = ap length same ∙ length-append (filter q (below n)) (n ∷ []) in
          elim (cases_eq i (length (filter q (below n)))) [
            | inl is ↦ ap (λ m. length (filter q (below m))) (ap (λ (xs : List ℕ). slice_index xs i) same ∙ ap (slice_index (filter q (below n) ++ n ∷ [])) is ∙ last_of (filter q (below n)) n) ∙ sym is
            | inr ne ↦ ap (λ m. length (filter q (below m))) (ap (λ (xs : List ℕ). slice_index xs i) same ∙ front_at (filter q (below n)) (n ∷ []) i (omega arith)) ∙ before i (omega arith)
          ]
      go false out before =
          let same : filter q (below (suc n)) ≡ filter q (below n) = ap (λ m. filter q (below m)) e ∙ up_out q n out in
          ap (λ m. length (filter q (below m))) (ap (λ (xs : List ℕ). slice_index xs i) same) ∙ before i (let l : length (filter q (below (suc n))) ≡ length (filter q (below n)) = ap length same in omega arith)

  pub apart : (n i j : ℕ) → i < length (filter q (below n)) → j < length (filter q (below n)) → slice_index (filter q (below n)) i ≡ slice_index (filter q (below n)) j → i ≡ j
  apart n i j hi hj e = sym (index_of n i hi) ∙ ap (λ m. length (filter q (below m))) e ∙ index_of n j hj

-- ---- all buckets

pub metas_more : (f : ℕ → Version) (n u : ℕ) (old s t : Buckets) (v : Version) → u < n → v ≡ f u → Filled f no_version n u s.versions → s ≡ record old { versions = s.versions } → t ≡ with_version s u v
    → (Filled f no_version n (u + 1) t.versions) × (t ≡ record old { versions = t.versions })
metas_more f n u old s t v lt is filled same e = (
  subst (λ (x : Buckets). Filled f no_version n (u + 1) x.versions) (sym e) (filled_more f no_version n u s.versions v lt is filled),
  subst (λ (x : Buckets). x ≡ record old { versions = x.versions }) (sym e) (ap (λ (x : Buckets). record x { versions = slice_set s.versions u v }) same),
)

-- ---- the stash

pub rows_few : (es : List (ℕ × List ℕ)) → finite.len (finite.from_entries {R = nat_cmp} es) ≤ length es
rows_few [] = omega (arith, finite.len-empty nat_cmp (List ℕ))
rows_few (e ∷ es) =
    let le : finite.len (finite.from_entries {R = nat_cmp} es) ≤ length es = rows_few es in
    one_more (finite.contains_key (finite.from_entries {R = nat_cmp} es) e.0) _ _ le (finite.len-insert nat_cmp_total (finite.from_entries {R = nat_cmp} es) e.0 e.1)
  where
    one_more : (b : Bool) (m n : ℕ) → m ≤ length es → n ≡ cond b m (m + 1) → n ≤ suc (length es)
    one_more true m n le is = omega arith
    one_more false m n le is = omega arith

none_of : {X : Type 0} (o : Option X) → ((x : X) → o ≡ Some x → ⊥) → o ≡ None
none_of None f = refl
none_of (Some x) f = absurd (f x refl)

module _ (p : Params) (bytes : List ℕ) (kept : Kept p bytes) where
  below_long : (n : ℕ) → length (below n) ≡ n
  below_long n = length-range_with_len 0 n

  pub count_few : count_in p bytes ≤ p.keys
  count_few = let c = kept.count in let f : length (loose_keys p bytes) ≤ length (below p.keys) = kept_few (is_loose p bytes) (below p.keys) in omega (arith, below_long p.keys)

  row_at : (i j : ℕ) → j < i → get_or (map (row_in p bytes) (below i)) j (0, []) ≡ row_in p bytes j
  row_at i j lt = get_or-map-range_with_len (row_in p bytes) 0 i j j (0, []) lt (omega arith)

  pub new_key : (i : ℕ) → i < count_in p bytes → find nat_cmp (row_key_in p bytes i) (map (row_in p bytes) (below i)) ≡ None
  new_key i lt = none_of (find nat_cmp (row_key_in p bytes i) (map (row_in p bytes) (below i))) (λ v is.
      let f = found_at (row_key_in p bytes i) (map (row_in p bytes) (below i)) v is in
      let j : f.0 < i = (let l : f.0 < length (map (row_in p bytes) (below i)) = f.1 in omega (arith, length-map-range_with_len (row_in p bytes) 0 i)) in
      let many : count_in p bytes ≡ length (loose_keys p bytes) = kept.count in
      let hi : i < length (loose_keys p bytes) = omega arith in
      let hj : f.0 < length (loose_keys p bytes) = omega arith in
      let key : row_key_in p bytes f.0 ≡ row_key_in p bytes i = sym (ap (λ (r : ℕ × List ℕ). r.0) (row_at i f.0 j)) ∙ f.2 in
      let same : f.0 ≡ i = apart (is_loose p bytes) p.keys f.0 i hj hi (sym (kept.row_keys f.0 hj) ∙ key ∙ kept.row_keys i hi) in
      omega arith)

  -- there is room for one row more
  pub room_left : (i : ℕ) (s : Held) (old : Held) → i < count_in p bytes → s ≡ record old { rows = finite.from_entries (map (row_in p bytes) (below i)) } → old.room ≡ p.keys → finite.len s.rows < s.room
  room_left i s old lt is room =
      let r : s.room ≡ old.room = ap (λ (h : Held). h.room) is in
      let n : finite.len s.rows ≡ finite.len (finite.from_entries {R = nat_cmp} (map (row_in p bytes) (below i))) = ap (λ (h : Held). finite.len h.rows) is in
      let l : finite.len (finite.from_entries {R = nat_cmp} (map (row_in p bytes) (below i))) ≤ length (map (row_in p bytes) (below i)) = rows_few (map (row_in p bytes) (below i)) in
      omega (arith, length-map-range_with_len (row_in p bytes) 0 i, count_few)

  pub row_more : (i k : ℕ) (v : List ℕ) (s t old : Held) → i < count_in p bytes → k ≡ row_key_in p bytes i → v ≡ row_value_in p bytes i → s ≡ record old { rows = finite.from_entries (map (row_in p bytes) (below i)) }
      → t ≡ record s { rows = finite.insert s.rows k v } → t ≡ record old { rows = finite.from_entries (map (row_in p bytes) (below (i + 1))) }
  row_more i k v s t old lt key value is e =
      let more : finite.from_entries {R = nat_cmp} (map (row_in p bytes) (below (i + 1))) ≡ finite.insert (finite.from_entries {R = nat_cmp} (map (row_in p bytes) (below i))) (row_key_in p bytes i) (row_value_in p bytes i) =
      ap (λ (es : List (ℕ × List ℕ)). finite.from_entries {R = nat_cmp} es) (map_up (row_in p bytes) i)
      ∙ finite.from_entries_push nat_cmp_total finite.nat_cmp-IsAntisymmetric (map (row_in p bytes) (below i)) (row_key_in p bytes i) (row_value_in p bytes i) (new_key i lt) in
      e ∙ ap (λ (h : Held). record h { rows = finite.insert h.rows k v }) is
      ∙ ap (λ n. record old { rows = finite.insert (finite.from_entries {R = nat_cmp} (map (row_in p bytes) (below i))) n v }) key
      ∙ ap (λ (x : List ℕ). record old { rows = finite.insert (finite.from_entries {R = nat_cmp} (map (row_in p bytes) (below i))) (row_key_in p bytes i) x }) value
      ∙ ap (λ (m : Rows). record old { rows = m }) (sym more)

-- ---- all tables

pub told_content : (p : Params) (bytes : List ℕ) (n : ℕ) (b : List (Option Entry)) (vs : List Version) (rows : Rows) → n ≡ field_at w64 bytes 8 → b ≡ map (entry_in bytes) (below p.keys) → vs ≡ map (version_in p bytes) (below (buckets p))
    → rows ≡ finite.from_entries (map (row_in p bytes) (below (count_in p bytes))) → ◌≡◌ {A = Content} (record { counter = n; book = b; versions = vs; rows = rows }) (content_in p bytes)
told_content p bytes n b vs rows e f g h = rw (e, f, g, h) refl

pub none_read : (p : Params) (bytes : List ℕ) (s : Held) → s.rows ≡ finite.empty → s ≡ record s { rows = finite.from_entries (map (row_in p bytes) (below 0)) }
none_read p bytes s none = ap (λ (m : Rows). record s { rows = m }) none

pub all_rows : (p : Params) (bytes : List ℕ) (s : Held) (i : ℕ) → i ≡ count_in p bytes → ◌≡◌ {A = Held} (record s { rows = finite.from_entries (map (row_in p bytes) (below i)) }) (record s { rows = finite.from_entries (map (row_in p bytes) (below (count_in p bytes))) })
all_rows p bytes s i is = ap (λ n. record s { rows = finite.from_entries (map (row_in p bytes) (below n)) }) is
