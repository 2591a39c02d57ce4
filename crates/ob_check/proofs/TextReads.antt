-- The numbers that stand in a content's text.
use Rattle.std.specs.Prelude.{◌≡◌, ◌<◌, ◌≤◌, ℕ, ◌+◌, ◌-◌, ◌*◌, ◌^◌, ◌==◌, Bool, cond, List, [], ◌∷◌, ◌++◌, take, drop, replicate, length, Option, Some, None}
use Rattle.std.specs.List.{flat_map}
use Rattle.std.specs.Int.{w32, w64, to_le_bytes, from_le_bytes}
use Rattle.std.specs.FinMap as finite
use Rattle.std.proofs.Common.{zero, suc, arith, refl, sym, ap, ◌∙◌, get_or, append_assoc}
use Rattle.std.proofs.lemmas.List.{take_at, drop_at, drop-drop, get_or-drop, get_or-append-add}
use Rattle.std.proofs.lemmas.List.Concat.{flat_map-cons}
use Rattle.std.proofs.lemmas.Nat.{from_le_bytes-to_le_bytes_4, from_le_bytes-to_le_bytes_8}
use Rattle.ob_base.specs.declared.params.Params.{Params}
use Rattle.ob_base.specs.Layout.{meta_len}
use Rattle.ob_base.specs.LittleEndian.{field_at}
use Rattle.ob_base.specs.Tree.{buckets, width}
use Rattle.ob_base.proofs.Bounds.{leaves_le}
use Rattle.ob_base.proofs.Spelled.{length-flat_map_wide}
use Rattle.ob_tables.specs.Version.{Version, Spells, EMPTY, key_at, rank_at, used_at, key_bytes, mark_of, index_bytes, version_bytes}
use Rattle.ob_tables.specs.Buckets.{version_at, no_version}
use Rattle.ob_tables.proofs.PartLaws.{key_width, keys_width}
use Rattle.ob_tables.proofs.SpellingLaws.{mark_is}
use Rattle.ob_tables.specs.declared.entry.Entry.{Entry}
use Rattle.ob_tables.specs.Kept.{entry_at}
use Rattle.ob_tables.specs.Content.{Content, FitsEntry, Obeys}
use Rattle.ob_tables.specs.Spelling.{entry_bytes, row_bytes, stash_bytes, checkpoint_bytes}
use Rattle.ob_tables.proofs.TextLaws.{entry_width, version_width, fields_fit, row_width, row_short, row_key_low}
use Rattle.ob_check.specs.Fields.{byte_at, entry_place, leaf_in, bucket_place, number_in, rank_in, mark_in, count_place, count_in, row_place, row_key_in, row_len_in, row_value_in}
use Rattle.ob_check.specs.Reading.{entry_in}
use Rattle.ob_check.proofs.PlaceLaws.{bucket_is}
use Rattle.ob_check.proofs.SpellLaws.{place_at}
use Rattle.ob_check.proofs.VersionReads.{part_in, byte_in}

-- ---- items of one width

module _ {X : Type 0} (f : X → List ℕ) (w : ℕ) (d : X) where
  joined : (x : X) (xs : List X) (rest : List ℕ) → flat_map f (x ∷ xs) ++ rest ≡ f x ++ (flat_map f xs ++ rest)
  joined x xs rest = ap (λ (l : List ℕ). l ++ rest) (flat_map-cons f x xs) ∙ append_assoc (f x) (flat_map f xs) rest

  pub item_at : (xs : List X) (rest : List ℕ) (i : ℕ) → i < length xs → ((j : ℕ) → j < length xs → length (f (get_or xs j d)) ≡ w) → take w (drop (i * w) (flat_map f xs ++ rest)) ≡ f (get_or xs i d)
  item_at [] rest i lt wide = absurd (omega arith)
  item_at (x ∷ xs) rest zero lt wide =
      let z : 0 * w ≡ 0 = omega arith in
      ap (λ n. take w (drop n (flat_map f (x ∷ xs) ++ rest))) z ∙ ap (take w) (joined x xs rest) ∙ take_at (f x) (flat_map f xs ++ rest) w (wide 0 (omega arith))
  item_at (x ∷ xs) rest (suc i) lt wide =
      let e : suc i * w ≡ w + i * w = grind arith in
      ap (λ n. take w (drop n (flat_map f (x ∷ xs) ++ rest))) e ∙ ap (take w) (sym (drop-drop (i * w) w (flat_map f (x ∷ xs) ++ rest)))
      ∙ ap (λ (l : List ℕ). take w (drop (i * w) l)) (ap (drop w) (joined x xs rest) ∙ drop_at (f x) (flat_map f xs ++ rest) w (wide 0 (omega arith)))
      ∙ item_at xs rest i (omega arith) (λ j l. wide (suc j) (omega arith))

  pub behind : (xs : List X) (rest : List ℕ) (n : ℕ) → n ≡ length xs * w → ((j : ℕ) → j < length xs → length (f (get_or xs j d)) ≡ w) → drop n (flat_map f xs ++ rest) ≡ rest
  behind xs rest n is wide = drop_at (flat_map f xs) rest n (length-flat_map_wide f w d xs wide ∙ sym is)

-- ---- the parts of a text

abbrev pub rows_of : Content → List (ℕ × List ℕ)
rows_of c = finite.entries c.rows

abbrev stash_part : Params → Content → List ℕ
stash_part p c = to_le_bytes w32 (finite.len c.rows) ++ stash_bytes p.room c.rows

abbrev versions_part : Params → Content → List ℕ
versions_part p c = flat_map version_bytes c.versions ++ stash_part p c

pub text_is : (p : Params) (e : ℕ) (c : Content) → checkpoint_bytes p e c ≡ to_le_bytes w64 e ++ (to_le_bytes w64 c.counter ++ (flat_map entry_bytes c.book ++ versions_part p c))
unfolding checkpoint_bytes
text_is p e c = refl

behind_numbers : (p : Params) (e : ℕ) (c : Content) → drop 16 (checkpoint_bytes p e c) ≡ flat_map entry_bytes c.book ++ versions_part p c
behind_numbers p e c = ap (λ (xs : List ℕ). drop 16 xs) (text_is p e c)

pub epoch_is : (p : Params) (e : ℕ) (c : Content) → e < 2 ^ 64 → field_at w64 (checkpoint_bytes p e c) 0 ≡ e
epoch_is p e c low = ap (λ (xs : List ℕ). from_le_bytes w64 (take 8 (drop 0 xs))) (text_is p e c) ∙ from_le_bytes-to_le_bytes_8 e low

pub counter_is : (p : Params) (e : ℕ) (c : Content) → Obeys p c → field_at w64 (checkpoint_bytes p e c) 8 ≡ c.counter
counter_is p e c o = ap (λ (xs : List ℕ). from_le_bytes w64 (take 8 (drop 8 xs))) (text_is p e c) ∙ from_le_bytes-to_le_bytes_8 c.counter (omega (arith, leaves_le p, o.counter))

-- a number that stands in a part
pub field_in : (bytes part : List ℕ) (at m i : ℕ) → i + 4 ≤ m → take m (drop at bytes) ≡ part → field_at w32 bytes (at + i) ≡ from_le_bytes w32 (take 4 (drop i part))
field_in bytes part at m i fits is = ap (from_le_bytes w32) (sym (part_in bytes at m i 4 fits) ∙ ap (λ (xs : List ℕ). take 4 (drop i xs)) is)

pub long_in : (bytes part : List ℕ) (at m i : ℕ) → i + 8 ≤ m → take m (drop at bytes) ≡ part → field_at w64 bytes (at + i) ≡ from_le_bytes w64 (take 8 (drop i part))
long_in bytes part at m i fits is = ap (from_le_bytes w64) (sym (part_in bytes at m i 8 fits) ∙ ap (λ (xs : List ℕ). take 8 (drop i xs)) is)

pub byte_of : (bytes part : List ℕ) (at m i : ℕ) → i < m → take m (drop at bytes) ≡ part → get_or bytes (at + i) 0 ≡ get_or part i 0
byte_of bytes part at m i lt is = sym (byte_in bytes at m i lt) ∙ ap (λ (xs : List ℕ). get_or xs i 0) is

-- ---- keys

entry_of : (g h i j l m : ℕ) → g ≡ h → i ≡ j → l ≡ m → ◌≡◌ {A = Entry} (record { generation = g; index = i; leaf = l }) (record { generation = h; index = j; leaf = m })
entry_of g h i j l m a b c = rw (a, b, c) refl

pub entry_part : (p : Params) (e : ℕ) (c : Content) → Obeys p c → (k : ℕ) → k < p.keys → take 21 (drop (entry_place k) (checkpoint_bytes p e c)) ≡ entry_bytes (entry_at c.book k)
entry_part p e c o k lt =
    let text : List ℕ = checkpoint_bytes p e c in
    let at : 16 + 21 * k ≡ 16 + k * 21 = omega arith in
    let many : length c.book ≡ p.keys = o.book.many in
    ap (λ n. take 21 (drop n text)) at ∙ ap (take 21) (sym (drop-drop (k * 21) 16 text)) ∙ ap (λ (xs : List ℕ). take 21 (drop (k * 21) xs)) (behind_numbers p e c)
    ∙ item_at entry_bytes 21 None c.book (versions_part p c) k (omega arith) (λ j l. entry_width (get_or c.book j None))

-- what stands of a key in a text that has it
pub record StandsAs (p : Params) (bytes : List ℕ) (k : ℕ) (x : Option Entry) : Type 0 where
  pub absent : x ≡ None → byte_at bytes (entry_place k) ≡ 0
  pub present : (e : Entry) → x ≡ Some e → (byte_at bytes (entry_place k) ≡ 1) × (leaf_in bytes k ≡ e.leaf)
  pub entry : entry_in bytes k ≡ x

none≢some : {X : Type 0} {x : X} → ◌≡◌ {A = Option X} None (Some x) → ⊥
none≢some e = cc

stands : (p : Params) (bytes : List ℕ) (k : ℕ) (x : Option Entry) → take 21 (drop (entry_place k) bytes) ≡ entry_bytes x → ((e : Entry) → x ≡ Some e → FitsEntry p e) → StandsAs p bytes k x
stands p bytes k None is fits =
    let first : entry_place k ≡ entry_place k + 0 = omega arith in
    let byte : byte_at bytes (entry_place k) ≡ 0 = ap (λ n. get_or bytes n 0) first ∙ byte_of bytes (entry_bytes None) (entry_place k) 21 0 (omega arith) is in
    record {
      absent = λ e. byte;
      present = λ e is. absurd (none≢some is);
      entry = ap (λ n. cond (n == 1) (Some (record { generation = field_at w64 bytes (entry_place k + 1); index = field_at w64 bytes (entry_place k + 9); leaf = leaf_in bytes k })) None) byte;
    }
stands p bytes k (Some e) is fits =
    let f = fits e refl in
    let first : entry_place k ≡ entry_place k + 0 = omega arith in
    let byte : byte_at bytes (entry_place k) ≡ 1 = ap (λ n. get_or bytes n 0) first ∙ byte_of bytes (entry_bytes (Some e)) (entry_place k) 21 0 (omega arith) is in
    let generation : field_at w64 bytes (entry_place k + 1) ≡ e.generation = long_in bytes (entry_bytes (Some e)) (entry_place k) 21 1 (omega arith) is ∙ from_le_bytes-to_le_bytes_8 e.generation f.generation in
    let index : field_at w64 bytes (entry_place k + 9) ≡ e.index = long_in bytes (entry_bytes (Some e)) (entry_place k) 21 9 (omega arith) is ∙ from_le_bytes-to_le_bytes_8 e.index f.index in
    let leaf : leaf_in bytes k ≡ e.leaf = field_in bytes (entry_bytes (Some e)) (entry_place k) 21 17 (omega arith) is ∙ from_le_bytes-to_le_bytes_4 e.leaf (omega (arith, leaves_le p, f.leaf)) in
    record {
      absent = λ none. absurd (none≢some (sym none));
      present = λ x same. (byte, leaf ∙ ap (λ (y : Entry). y.leaf) (some_of same));
      entry = ap (λ n. cond (n == 1) (Some (record { generation = field_at w64 bytes (entry_place k + 1); index = field_at w64 bytes (entry_place k + 9); leaf = leaf_in bytes k })) None) byte
          ∙ ap Some (entry_of (field_at w64 bytes (entry_place k + 1)) e.generation (field_at w64 bytes (entry_place k + 9)) e.index (leaf_in bytes k) e.leaf generation index leaf);
    }
  where
    some_of : {a b : Entry} → ◌≡◌ {A = Option Entry} (Some a) (Some b) → a ≡ b
    some_of e = cc

pub entry_stands : (p : Params) (e : ℕ) (c : Content) → Obeys p c → (k : ℕ) → k < p.keys → StandsAs p (checkpoint_bytes p e c) k (entry_at c.book k)
entry_stands p e c o k lt = stands p (checkpoint_bytes p e c) k (entry_at c.book k) (entry_part p e c o k lt) (λ x is. o.book.entries k x is)

-- ---- buckets

behind_book : (p : Params) (e : ℕ) (c : Content) → Obeys p c → drop (bucket_place p 0) (checkpoint_bytes p e c) ≡ versions_part p c
behind_book p e c o =
    let text : List ℕ = checkpoint_bytes p e c in
    let z : bucket_place p 0 ≡ 16 + 21 * p.keys + 0 * meta_len p = bucket_is p 0 in
    let at : bucket_place p 0 ≡ 16 + 21 * p.keys = omega arith in
    let many : length c.book ≡ p.keys = o.book.many in
    ap (λ n. drop n text) at ∙ sym (drop-drop (21 * p.keys) 16 text) ∙ ap (drop (21 * p.keys)) (behind_numbers p e c)
    ∙ behind entry_bytes 21 None c.book (versions_part p c) (21 * p.keys) (omega arith) (λ j l. entry_width (get_or c.book j None))

pub bucket_part : (p : Params) (e : ℕ) (c : Content) → Obeys p c → (u : ℕ) → u < buckets p → take (meta_len p) (drop (bucket_place p u) (checkpoint_bytes p e c)) ≡ version_bytes (version_at c.versions u)
bucket_part p e c o u lt =
    let text : List ℕ = checkpoint_bytes p e c in
    let many : length c.versions ≡ buckets p = o.many in
    ap (λ n. take (meta_len p) (drop n text)) (place_at p u) ∙ ap (take (meta_len p)) (sym (drop-drop (u * meta_len p) (bucket_place p 0) text)) ∙ ap (λ (xs : List ℕ). take (meta_len p) (drop (u * meta_len p) xs)) (behind_book p e c o)
    ∙ item_at version_bytes (meta_len p) no_version c.versions (stash_part p c) u (omega arith) (λ j l. version_width p c o j (omega arith))

pub bucket_spelled : (p : Params) (e : ℕ) (c : Content) → Obeys p c → (u : ℕ) → u < buckets p → Spells p (take (meta_len p) (drop (bucket_place p u) (checkpoint_bytes p e c))) (version_at c.versions u)
bucket_spelled p e c o u lt = record { obeys = o.versions u lt; fits = fields_fit p c o u lt; is = sym (bucket_part p e c o u lt) }

-- the number that spells a place's key
abbrev pub number_of : Option ℕ → ℕ
number_of None = EMPTY
number_of (Some k) = k

key_read : (o : Option ℕ) → ((k : ℕ) → o ≡ Some k → k < EMPTY) → from_le_bytes w32 (key_bytes o) ≡ number_of o
key_read None low = from_le_bytes-to_le_bytes_4 EMPTY (omega arith)
key_read (Some k) low = from_le_bytes-to_le_bytes_4 k (let l : k < EMPTY = low k refl in omega arith)

rank_there : (ranks : List ℕ) (used : List Bool) (j : ℕ) → length used ≡ length ranks → j < length ranks → get_or (index_bytes ranks used) (2 * j) 0 ≡ get_or ranks j 0
rank_there [] used j e h = absurd (omega arith)
rank_there (r ∷ rs) [] j e h = absurd (omega arith)
rank_there (r ∷ rs) (u ∷ us) zero e h = refl
rank_there (r ∷ rs) (u ∷ us) (suc j) e h = let n : 2 * suc j ≡ suc (suc (2 * j)) = omega arith in rw n (rank_there rs us j (omega arith) (omega arith))

-- what stands of a bucket in a text that has it
pub record HoldsVersion (p : Params) (bytes : List ℕ) (u : ℕ) (v : Version) : Type 0 where
  pub home : byte_at bytes (bucket_place p u) ≡ v.home
  pub generation : field_at w64 bytes (bucket_place p u + 1) ≡ v.generation
  pub base : field_at w64 bytes (bucket_place p u + 9) ≡ v.base
  pub numbers : (j : ℕ) → j < p.real → number_in p bytes u j ≡ number_of (key_at v j)
  pub ranks : (i : ℕ) → i < width p → rank_in p bytes u i ≡ rank_at v i
  pub marks : (i : ℕ) → i < width p → mark_in p bytes u i ≡ mark_of (used_at v i)

pub holds_version : (p : Params) (bytes : List ℕ) (u : ℕ) (v : Version) → Spells p (take (meta_len p) (drop (bucket_place p u) bytes)) v → HoldsVersion p bytes u v
holds_version p bytes u v s =
    let at : ℕ = bucket_place p u in
    let m : ℕ = meta_len p in
    let part : List ℕ = take m (drop at bytes) in
    let is : part ≡ version_bytes v = sym s.is in
    let slots = s.obeys.slots in
    let kn : length v.keys ≡ p.real = slots.keys in
    let rn : length v.ranks ≡ width p = slots.ranks in
    let un : length v.used ≡ width p = slots.used in
    let first : at ≡ at + 0 = omega arith in
    let keys : List ℕ = flat_map key_bytes v.keys in
    let wide : length keys ≡ 4 * length v.keys = keys_width v.keys in
    record {
      home = ap (λ n. get_or bytes n 0) first ∙ byte_of bytes (version_bytes v) at m 0 (omega arith) is;
      generation = long_in bytes (version_bytes v) at m 1 (omega arith) is ∙ from_le_bytes-to_le_bytes_8 v.generation s.fits.generation;
      base = long_in bytes (version_bytes v) at m 9 (omega arith) is ∙ from_le_bytes-to_le_bytes_8 v.base s.fits.base;
      numbers = λ j h. (
          let on : bucket_place p u + 17 + 4 * j ≡ bucket_place p u + (17 + 4 * j) = omega arith in
          let four : 4 * j ≡ j * 4 = omega arith in
          ap (field_at w32 bytes) on ∙ field_in bytes (version_bytes v) at m (17 + 4 * j) (omega arith) is
          ∙ ap (λ (xs : List ℕ). from_le_bytes w32 (take 4 xs)) (sym (drop-drop (4 * j) 17 (version_bytes v)) ∙ ap (λ n. drop n (keys ++ index_bytes v.ranks v.used)) four)
          ∙ ap (from_le_bytes w32) (item_at key_bytes 4 None v.keys (index_bytes v.ranks v.used) j (omega arith) (λ i l. key_width (get_or v.keys i None)))
          ∙ key_read (key_at v j) (λ k h. s.fits.keys j k h));
      ranks = λ i h. (
          let on : bucket_place p u + 17 + 4 * p.real + 2 * i ≡ bucket_place p u + (17 + 4 * p.real + 2 * i) = omega arith in
          let there : 17 + 4 * p.real + 2 * i ≡ 17 + (length keys + 2 * i) = omega arith in
          ap (λ n. get_or bytes n 0) on ∙ byte_of bytes (version_bytes v) at m (17 + 4 * p.real + 2 * i) (omega arith) is
          ∙ ap (λ n. get_or (version_bytes v) n 0) there ∙ sym (get_or-drop 17 (version_bytes v) (length keys + 2 * i) 0)
          ∙ get_or-append-add keys (index_bytes v.ranks v.used) (2 * i) 0 ∙ rank_there v.ranks v.used i (un ∙ sym rn) (omega arith));
      marks = λ i h. (
          let on : bucket_place p u + 17 + 4 * p.real + 2 * i + 1 ≡ bucket_place p u + (17 + 4 * p.real + 2 * i + 1) = omega arith in
          ap (λ n. get_or bytes n 0) on ∙ sym (byte_in bytes at m (17 + 4 * p.real + 2 * i + 1) (omega arith)) ∙ mark_is p part v i s h);
    }

-- ---- the stash

behind_versions : (p : Params) (e : ℕ) (c : Content) → Obeys p c → drop (count_place p) (checkpoint_bytes p e c) ≡ stash_part p c
behind_versions p e c o =
    let text : List ℕ = checkpoint_bytes p e c in
    let many : length c.versions ≡ buckets p = o.many in
    ap (λ n. drop n text) (place_at p (buckets p)) ∙ sym (drop-drop (buckets p * meta_len p) (bucket_place p 0) text) ∙ ap (drop (buckets p * meta_len p)) (behind_book p e c o)
    ∙ behind version_bytes (meta_len p) no_version c.versions (stash_part p c) (buckets p * meta_len p) (ap (λ n. n * meta_len p) (sym many)) (λ j l. version_width p c o j (omega arith))

pub count_is : (p : Params) (e : ℕ) (c : Content) → Obeys p c → count_in p (checkpoint_bytes p e c) ≡ finite.len c.rows
count_is p e c o =
    ap (λ (xs : List ℕ). from_le_bytes w32 (take 4 xs)) (behind_versions p e c o) ∙ from_le_bytes-to_le_bytes_4 (finite.len c.rows) (omega (arith, o.few, p.in_range.few_room))

pub row_part : (p : Params) (e : ℕ) (c : Content) → Obeys p c → (i : ℕ) → i < length (rows_of c) → take 69 (drop (row_place p i) (checkpoint_bytes p e c)) ≡ row_bytes (get_or (rows_of c) i (0, []))
row_part p e c o i lt =
    let text : List ℕ = checkpoint_bytes p e c in
    let at : row_place p i ≡ count_place p + (4 + i * 69) = omega arith in
    ap (λ n. take 69 (drop n text)) at ∙ ap (take 69) (sym (drop-drop (4 + i * 69) (count_place p) text) ∙ ap (drop (4 + i * 69)) (behind_versions p e c o) ∙ sym (drop-drop (i * 69) 4 (stash_part p c)))
    ∙ item_at row_bytes 69 (0, []) (rows_of c) (replicate (69 * (p.room - finite.len c.rows)) 0) i lt (λ j l. row_width (get_or (rows_of c) j (0, [])) (row_short p c o j l))

-- what stands of a row in a text that has it
pub record HoldsRow (p : Params) (bytes : List ℕ) (i : ℕ) (row : ℕ × List ℕ) : Type 0 where
  pub key : row_key_in p bytes i ≡ row.0
  pub len : row_len_in p bytes i ≡ length row.1
  pub value : row_value_in p bytes i ≡ row.1

holds_row_of : (p : Params) (bytes : List ℕ) (i k : ℕ) (v : List ℕ) → k < 2 ^ 32 → length v ≤ 64 → take 69 (drop (row_place p i) bytes) ≡ row_bytes (k, v) → HoldsRow p bytes i (k, v)
holds_row_of p bytes i k v low short is =
    let first : row_place p i ≡ row_place p i + 0 = omega arith in
    let len : row_len_in p bytes i ≡ length v = byte_of bytes (row_bytes (k, v)) (row_place p i) 69 4 (omega arith) is in
    record {
      key = ap (field_at w32 bytes) first ∙ field_in bytes (row_bytes (k, v)) (row_place p i) 69 0 (omega arith) is ∙ from_le_bytes-to_le_bytes_4 k low;
      len = len;
      value = ap (λ n. take n (drop (row_place p i + 5) bytes)) len ∙ sym (part_in bytes (row_place p i) 69 5 (length v) (omega arith)) ∙ ap (λ (xs : List ℕ). take (length v) (drop 5 xs)) is
          ∙ take_at v (replicate (64 - length v) 0) (length v) refl;
    }

pub holds_row : (p : Params) (e : ℕ) (c : Content) → Obeys p c → (i : ℕ) → i < length (rows_of c) → HoldsRow p (checkpoint_bytes p e c) i (get_or (rows_of c) i (0, []))
holds_row p e c o i lt =
    let r : ℕ × List ℕ = get_or (rows_of c) i (0, []) in
    let low : r.0 < p.keys = row_key_low p c o i lt in
    holds_row_of p (checkpoint_bytes p e c) i r.0 r.1 (omega (arith, p.in_range.few_keys)) (row_short p c o i lt) (row_part p e c o i lt)
