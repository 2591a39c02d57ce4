-- Items of one width, written one behind the other.
use Rattle.std.specs.Prelude.{◌≡◌, ◌<◌, ◌≤◌, ℕ, ◌+◌, ◌-◌, ◌*◌, List, [], ◌∷◌, ◌++◌, take, drop, replicate, length, slice_set, None}
use Rattle.std.specs.List.{flat_map}
use borrow.Rule.Slice.PartMut.{put_mid}
use Rattle.std.specs.Int.{w32, w64, to_le_bytes}
use Rattle.std.specs.FinMap as finite
use Rattle.std.proofs.Common.{zero, suc, arith, refl, sym, ap, ◌∙◌, get_or, length-append, append_assoc}
use Rattle.std.proofs.lemmas.List.{append-nil, take_more, take_all, length-replicate, drop-replicate, ext_get_or, get_or-replicate, take_at, drop_at, drop-drop}
use Rattle.std.proofs.lemmas.List.Concat.{flat_map-append}
use Rattle.ob_base.specs.declared.params.Params.{Params}
use Rattle.ob_base.specs.Layout.{checkpoint_len, meta_len}
use Rattle.ob_base.specs.LittleEndian.{with_part}
use Rattle.ob_base.specs.Tree.{buckets}
use Rattle.ob_tables.specs.Version.{Version, HasSlots, version_bytes, version_len, key_bytes, index_bytes}
use Rattle.ob_tables.specs.Buckets.{no_version}
use Rattle.ob_tables.proofs.PartLaws.{part_none, parts_joined, keys_width, index_width}
use Rattle.ob_base.proofs.Spelled.{length-flat_map_wide}
use Rattle.ob_tables.specs.Content.{Content, Obeys}
use Rattle.ob_tables.specs.Spelling.{checkpoint_bytes, entry_bytes, row_bytes, stash_bytes}
use Rattle.ob_tables.proofs.TextLaws.{entry_width, version_width, row_width, row_short}
use Rattle.ob_check.specs.Fields.{bucket_place, count_place, row_place}
use Rattle.ob_check.proofs.PlaceLaws.{bucket_is, count_end}

module _ {X : Type 0} (f : X → List ℕ) (w : ℕ) (d : X) (b : List ℕ) (at : ℕ) (xs : List X) where
  pub items_none : b ≡ with_part b at (flat_map f (take 0 xs))
  items_none = sym (part_none b at)

  wide_front : (j : ℕ) → j ≤ length xs → ((i : ℕ) → i < length xs → length (f (get_or xs i d)) ≡ w) → length (flat_map f (take j xs)) ≡ j * w
  wide_front zero le wide = omega arith
  wide_front (suc j) le wide =
      let e : suc j ≡ j + 1 = omega arith in
      let more : flat_map f (take (suc j) xs) ≡ flat_map f (take j xs) ++ f (get_or xs j d) = ap (λ n. flat_map f (take n xs)) e ∙ one_more j (omega arith) in
      let here : length (f (get_or xs j d)) ≡ w = wide j (omega arith) in
      let before : length (flat_map f (take j xs)) ≡ j * w = wide_front j (omega arith) wide in
      let split : suc j * w ≡ j * w + w = grind arith in
      ap length more ∙ length-append (flat_map f (take j xs)) (f (get_or xs j d)) ∙ omega arith
    where
      one_more : (i : ℕ) → i < length xs → flat_map f (take (i + 1) xs) ≡ flat_map f (take i xs) ++ f (get_or xs i d)
      one_more i lt = ap (flat_map f) (take_more xs i d lt) ∙ flat_map-append f (take i xs) (get_or xs i d ∷ []) ∙ ap (λ (ys : List ℕ). flat_map f (take i xs) ++ ys) (append-nil (f (get_or xs i d)))

  -- one item more is written
  pub items_more : (j place : ℕ) (bytes : List ℕ) → j < length xs → ((i : ℕ) → i < length xs → length (f (get_or xs i d)) ≡ w) → place ≡ at + j * w → place ≤ length b → bytes ≡ f (get_or xs j d)
      → with_part (with_part b at (flat_map f (take j xs))) place bytes ≡ with_part b at (flat_map f (take (j + 1) xs))
  items_more j place bytes lt wide is fits spelled =
      let long : length (flat_map f (take j xs)) ≡ j * w = wide_front j (omega arith) wide in
      parts_joined b at (flat_map f (take j xs)) bytes place (omega arith) fits
      ∙ ap (with_part b at) (sym (ap (flat_map f) (take_more xs j d lt) ∙ flat_map-append f (take j xs) (get_or xs j d ∷ [])
      ∙ ap (λ (ys : List ℕ). flat_map f (take j xs) ++ ys) (append-nil (f (get_or xs j d)) ∙ sym spelled)))

  pub items_all : (j : ℕ) → length xs ≤ j → with_part b at (flat_map f (take j xs)) ≡ with_part b at (flat_map f xs)
  items_all j le = ap (λ (ys : List X). with_part b at (flat_map f ys)) (take_all j xs le)

-- ---- all parts

-- bytes of a list, and zeros as before behind them
front_of : (zeros p : List ℕ) (n m : ℕ) → zeros ≡ replicate n 0 → n ≡ length p + m → with_part zeros 0 p ≡ p ++ replicate m 0
front_of zeros p n m is long =
    let e : n - length p ≡ m = omega arith in
    let at : 0 + length p ≡ length p = omega arith in
    ap (λ (xs : List ℕ). p ++ xs) (ap (λ k. drop k zeros) at ∙ ap (drop (length p)) is ∙ drop-replicate {X = ℕ} (length p) n 0 ∙ ap (λ k. replicate k 0) e)

pub spelled : (p : Params) (epoch : ℕ) (c : Content) (b0 b1 b2 b3 b4 b5 b6 : List ℕ) → Obeys p c → b0 ≡ replicate (checkpoint_len p) 0
    → b1 ≡ with_part b0 0 (to_le_bytes w64 epoch) → b2 ≡ with_part b1 8 (to_le_bytes w64 c.counter) → b3 ≡ with_part b2 16 (flat_map entry_bytes c.book)
    → b4 ≡ with_part b3 (bucket_place p 0) (flat_map version_bytes c.versions) → b5 ≡ with_part b4 (count_place p) (to_le_bytes w32 (finite.len c.rows))
    → b6 ≡ with_part b5 (row_place p 0) (flat_map row_bytes (finite.entries c.rows)) → b6 ≡ checkpoint_bytes p epoch c
unfolding checkpoint_bytes
spelled p epoch c b0 b1 b2 b3 b4 b5 b6 o e0 e1 e2 e3 e4 e5 e6 =
    let es : List ℕ = to_le_bytes w64 epoch in
    let cs : List ℕ = to_le_bytes w64 c.counter in
    let ks : List ℕ = flat_map entry_bytes c.book in
    let vs : List ℕ = flat_map version_bytes c.versions in
    let ns : List ℕ = to_le_bytes w32 (finite.len c.rows) in
    let rs : List ℕ = flat_map row_bytes (finite.entries c.rows) in
    let many : length c.book ≡ p.keys = o.book.many in
    let wk : length ks ≡ length c.book * 21 = length-flat_map_wide entry_bytes 21 None c.book (λ i lt. entry_width _) in
    let wv : length vs ≡ length c.versions * meta_len p = length-flat_map_wide version_bytes (meta_len p) no_version c.versions (λ i lt. version_width p c o i (omega (arith, o.many))) in
    let wv' : length vs ≡ buckets p * meta_len p = wv ∙ ap (λ n. n * meta_len p) o.many in
    let el : finite.len c.rows ≡ length (finite.entries c.rows) = finite.len-entries c.rows in
    let wr : length rs ≡ length (finite.entries c.rows) * 69 = length-flat_map_wide row_bytes 69 (0, []) (finite.entries c.rows) (λ i lt. row_width (get_or (finite.entries c.rows) i (0, [])) (row_short p c o i lt)) in
    let few : finite.len c.rows ≤ p.room = o.few in
    let long : length b0 ≡ checkpoint_len p = ap length e0 ∙ length-replicate {A = ℕ} (checkpoint_len p) 0 in
    let whole : count_place p + 4 + 69 * p.room ≡ checkpoint_len p = count_end p in
    let first : bucket_place p 0 ≡ 16 + 21 * p.keys + 0 * meta_len p = bucket_is p 0 in
    let count : count_place p ≡ 16 + 21 * p.keys + buckets p * meta_len p = bucket_is p (buckets p) in
    let f1 : b1 ≡ with_part b0 0 es = e1 in
    let f2 : b2 ≡ with_part b0 0 (es ++ cs) = e2 ∙ ap (λ (x : List ℕ). with_part x 8 cs) f1 ∙ parts_joined b0 0 es cs 8 refl (omega arith) in
    let l2 : length (es ++ cs) ≡ 16 = refl in
    let f3 : b3 ≡ with_part b0 0 ((es ++ cs) ++ ks) = e3 ∙ ap (λ (x : List ℕ). with_part x 16 ks) f2 ∙ parts_joined b0 0 (es ++ cs) ks 16 refl (omega arith) in
    let l3 : length ((es ++ cs) ++ ks) ≡ 16 + length ks = length-append (es ++ cs) ks in
    let f4 : b4 ≡ with_part b0 0 (((es ++ cs) ++ ks) ++ vs) = e4 ∙ ap (λ (x : List ℕ). with_part x (bucket_place p 0) vs) f3 ∙ parts_joined b0 0 ((es ++ cs) ++ ks) vs (bucket_place p 0) (omega arith) (omega arith) in
    let l4 : length (((es ++ cs) ++ ks) ++ vs) ≡ 16 + length ks + length vs = length-append ((es ++ cs) ++ ks) vs ∙ omega arith in
    let f5 : b5 ≡ with_part b0 0 ((((es ++ cs) ++ ks) ++ vs) ++ ns) = e5 ∙ ap (λ (x : List ℕ). with_part x (count_place p) ns) f4 ∙ parts_joined b0 0 (((es ++ cs) ++ ks) ++ vs) ns (count_place p) (omega arith) (omega arith) in
    let l5 : length ((((es ++ cs) ++ ks) ++ vs) ++ ns) ≡ 20 + length ks + length vs = length-append (((es ++ cs) ++ ks) ++ vs) ns ∙ omega arith in
    let f6 : b6 ≡ with_part b0 0 (((((es ++ cs) ++ ks) ++ vs) ++ ns) ++ rs) = e6 ∙ ap (λ (x : List ℕ). with_part x (row_place p 0) rs) f5 ∙ parts_joined b0 0 ((((es ++ cs) ++ ks) ++ vs) ++ ns) rs (row_place p 0) (omega arith) (omega arith) in
    let l6 : length (((((es ++ cs) ++ ks) ++ vs) ++ ns) ++ rs) ≡ 20 + length ks + length vs + length rs = length-append ((((es ++ cs) ++ ks) ++ vs) ++ ns) rs ∙ omega arith in
    f6 ∙ front_of b0 (((((es ++ cs) ++ ks) ++ vs) ++ ns) ++ rs) (checkpoint_len p) (69 * (p.room - finite.len c.rows)) e0 (omega arith)
    ∙ append_assoc ((((es ++ cs) ++ ks) ++ vs) ++ ns) rs (replicate (69 * (p.room - finite.len c.rows)) 0)
    ∙ append_assoc (((es ++ cs) ++ ks) ++ vs) ns (stash_bytes p.room c.rows) ∙ append_assoc ((es ++ cs) ++ ks) vs (ns ++ stash_bytes p.room c.rows)
    ∙ append_assoc (es ++ cs) ks (vs ++ (ns ++ stash_bytes p.room c.rows)) ∙ append_assoc es cs (ks ++ (vs ++ (ns ++ stash_bytes p.room c.rows)))

pub zeros_are : (xs : List ℕ) (n : ℕ) → length xs ≡ n → ((k : ℕ) → k < n → get_or xs k 1 ≡ 0) → xs ≡ replicate n 0
zeros_are xs n long at = ext_get_or 1 xs (replicate n 0) (long ∙ sym (length-replicate {A = ℕ} n 0))
    (λ k h. (let low : k < n = omega arith in at k low ∙ sym (get_or-replicate n k 0 1 low)))

-- a part that was written through a slice
pub put_is : (xs ys zs : List ℕ) (a n : ℕ) → ys ≡ zs → length zs ≡ n → put_mid a (a + n - a) xs ys ≡ with_part xs a zs
put_is xs ys zs a n is long =
    let e : a + (a + n - a) ≡ a + length zs = omega arith in
    ap (λ (l : List ℕ). put_mid a (a + n - a) xs l) is ∙ ap (λ (l : List ℕ). take a xs ++ (zs ++ l)) (drop-drop (a + n - a) a xs ∙ ap (λ m. drop m xs) e) ∙ sym (append_assoc (take a xs) zs (drop (a + length zs) xs))

pub version_long : (v : Version) → length v.used ≡ length v.ranks → length (version_bytes v) ≡ version_len v
version_long v marks =
    let keys : length (flat_map key_bytes v.keys) ≡ 4 * length v.keys = keys_width v.keys in
    let rest : length (index_bytes v.ranks v.used) ≡ 2 * length v.ranks = index_width v.ranks v.used marks in
    omega (arith, length-append (flat_map key_bytes v.keys) (index_bytes v.ranks v.used))

-- a value written over zeros behind a key and a length
pub row_is : (head v zeros : List ℕ) → length head ≡ 5 → zeros ≡ replicate 64 0 → length v ≤ 64 → with_part (head ++ zeros) 5 v ≡ head ++ (v ++ replicate (64 - length v) 0)
row_is head v zeros five is few =
    let front : take 5 (head ++ zeros) ≡ head = take_at head zeros 5 five in
    let back : drop (5 + length v) (head ++ zeros) ≡ replicate (64 - length v) 0 =
    sym (drop-drop (length v) 5 (head ++ zeros)) ∙ ap (drop (length v)) (drop_at head zeros 5 five) ∙ ap (drop (length v)) is ∙ drop-replicate {X = ℕ} (length v) 64 0 in
    ap (λ (x : List ℕ). x ++ v ++ drop (5 + length v) (head ++ zeros)) front ∙ ap (λ (x : List ℕ). head ++ v ++ x) back ∙ append_assoc head v (replicate (64 - length v) 0)

pub row_made : (key : ℕ) (v bytes b1 b2 : List ℕ) → bytes ≡ v → length v ≤ 64 → b1 ≡ with_part (replicate 69 0) 0 (to_le_bytes w32 key) → b2 ≡ with_part (slice_set b1 4 (length bytes)) 5 bytes → b2 ≡ row_bytes (key, v)
row_made key v bytes b1 b2 is few e1 e2 =
    e2 ∙ ap (λ (x : List ℕ). with_part (slice_set x 4 (length bytes)) 5 bytes) e1 ∙ ap (λ (x : List ℕ). with_part (slice_set (with_part (replicate 69 0) 0 (to_le_bytes w32 key)) 4 (length x)) 5 x) is
    ∙ row_is (to_le_bytes w32 key ++ length v ∷ []) v (replicate 64 0) refl refl few

pub place_at : (p : Params) (u : ℕ) → bucket_place p u ≡ bucket_place p 0 + u * meta_len p
place_at p u = let e : bucket_place p u ≡ 16 + 21 * p.keys + u * meta_len p = bucket_is p u in let z : bucket_place p 0 ≡ 16 + 21 * p.keys + 0 * meta_len p = bucket_is p 0 in omega arith

pub version_wide : (p : Params) (v : Version) → HasSlots p v → length (version_bytes v) ≡ meta_len p
version_wide p v s = let e : length (version_bytes v) ≡ version_len v = version_long v (s.used ∙ sym s.ranks) in omega (arith, s.keys, s.ranks)
