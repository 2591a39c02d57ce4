-- Contents that obey the rules and are spelled alike are equal.
use Rattle.std.specs.Prelude.{◌≡◌, ◌≢◌, ◌<◌, ◌≤◌, ℕ, ◌+◌, ◌-◌, ◌*◌, ◌^◌, List, [], ◌++◌, drop, replicate, length, Option, Some, None, slice_index_or}
use Rattle.std.specs.List.{flat_map}
use Rattle.std.specs.Int.{w32, w64, to_le_bytes}
use Rattle.std.specs.FinMap as finite
use Rattle.std.proofs.Common.{arith, refl, sym, ap, ◌∙◌, inl, inr, length-append, get_or}
use Rattle.std.proofs.lemmas.Bool.{cases_lt, cases_eq}
use Rattle.std.proofs.lemmas.List.{length-replicate, get_or_past}
use Rattle.ob_base.specs.declared.params.Params.{Params}
use Rattle.ob_base.specs.Tree.{buckets}
use Rattle.ob_base.specs.Layout.{checkpoint_len, meta_len}
use Rattle.ob_base.proofs.Bounds.{leaves_le}
use Rattle.ob_tables.specs.Version.{Version, FitsFields, key_at, key_bytes, index_bytes, version_bytes}
use Rattle.ob_tables.specs.Buckets.{version_at, no_version}
use Rattle.ob_tables.proofs.PartLaws.{keys_width, index_width}
use Rattle.ob_base.proofs.Spelled.{split_same, le32_same, front32, front64, length-flat_map_wide, items_same}
use Rattle.ob_tables.proofs.SpellingLaws.{version_same}
use Rattle.ob_tables.specs.declared.entry.Entry.{Entry}
use Rattle.ob_tables.specs.Kept.{entry_at}
use Rattle.ob_tables.specs.Rows.{Rises, Splits}
use Rattle.ob_tables.specs.Rows as row
use Rattle.ob_tables.proofs.RowLaws.{rises, find_at}
use Rattle.ob_tables.specs.Content.{Content, Rows, FitsEntry, Obeys}
use Rattle.ob_tables.specs.Spelling.{entry_bytes, value_bytes, row_bytes, stash_bytes, checkpoint_bytes}
use Rattle.ob_tables.specs.ContentLaws.{ContentOnce, ContentLength}

-- ---- a key's entry

pub entry_width : (e : Option Entry) → length (entry_bytes e) ≡ 21
entry_width None = refl
entry_width (Some e) = refl

entry_of : (g h i j l m : ℕ) → g ≡ h → i ≡ j → l ≡ m → ◌≡◌ {A = Entry} (record { generation = g; index = i; leaf = l }) (record { generation = h; index = j; leaf = m })
entry_of g h i j l m a b c = rw (a, b, c) refl

zero≢one : ◌≡◌ {A = ℕ} 0 1 → ⊥
zero≢one e = absurd (omega arith)

entry_same : (p : Params) (k l : Option Entry) → ((x : Entry) → k ≡ Some x → FitsEntry p x) → ((x : Entry) → l ≡ Some x → FitsEntry p x) → entry_bytes k ≡ entry_bytes l → k ≡ l
entry_same p None None fk fl e = refl
entry_same p None (Some y) fk fl e = absurd (zero≢one (ap (λ xs. get_or xs 0 0) e))
entry_same p (Some x) None fk fl e = absurd (zero≢one (sym (ap (λ xs. get_or xs 0 0) e)))
entry_same p (Some x) (Some y) fk fl e =
    let fx = fk x refl in
    let fy = fl y refl in
    let rest : to_le_bytes w64 x.generation ++ (to_le_bytes w64 x.index ++ to_le_bytes w32 x.leaf) ≡ to_le_bytes w64 y.generation ++ (to_le_bytes w64 y.index ++ to_le_bytes w32 y.leaf) = ap (drop 1) e in
    let one = front64 x.generation y.generation (to_le_bytes w64 x.index ++ to_le_bytes w32 x.leaf) (to_le_bytes w64 y.index ++ to_le_bytes w32 y.leaf) fx.generation fy.generation rest in
    let two = front64 x.index y.index (to_le_bytes w32 x.leaf) (to_le_bytes w32 y.leaf) fx.index fy.index one.1 in
    let leaf : x.leaf ≡ y.leaf = le32_same x.leaf y.leaf (omega (arith, leaves_le p, fx.leaf)) (omega (arith, leaves_le p, fy.leaf)) two.1 in
    ap Some (entry_of x.generation y.generation x.index y.index x.leaf y.leaf one.0 two.0 leaf)

-- ---- what obeys is in range

some≢none : {X : Type 0} {x : X} → ◌≡◌ {A = Option X} (Some x) None → ⊥
some≢none e = cc

pub present_low : (book : List (Option Entry)) (k : ℕ) → entry_at book k ≢ None → k < length book
present_low book k is = elim (cases_lt k (length book)) [
  | inl lt ↦ lt
  | inr ge ↦ absurd (is (get_or_past book k None (omega arith)))
]

pub key_low : (p : Params) (c : Content) → Obeys p c → (u j k : ℕ) → key_at (version_at c.versions u) j ≡ Some k → k < p.keys
key_low p c o u j k at =
    let is = o.keys u j k at in
    let low : k < length c.book = present_low c.book k (λ none. some≢none (sym is.kept ∙ none)) in
    omega (arith, o.book.many)

pub fields_fit : (p : Params) (c : Content) → Obeys p c → (u : ℕ) → u < buckets p → FitsFields (version_at c.versions u)
fields_fit p c o u lt = record {
  generation = (o.seals u lt).generation;
  base = (o.seals u lt).base;
  keys = λ j k at. (let low : k < p.keys = key_low p c o u j k at in omega (arith, p.in_range.few_keys));
}

-- ---- a bucket

pub version_width : (p : Params) (c : Content) → Obeys p c → (u : ℕ) → u < buckets p → length (version_bytes (version_at c.versions u)) ≡ meta_len p
version_width p c o u lt =
    let v : Version = version_at c.versions u in
    let s = (o.versions u lt).slots in
    let keys : length (flat_map key_bytes v.keys) ≡ 4 * length v.keys = keys_width v.keys in
    let rest : length (index_bytes v.ranks v.used) ≡ 2 * length v.ranks = index_width v.ranks v.used (s.used ∙ sym s.ranks) in
    omega (arith, length-append (flat_map key_bytes v.keys) (index_bytes v.ranks v.used), s.keys, s.ranks)

bucket_same : (p : Params) (b c : Content) → Obeys p b → Obeys p c → (u : ℕ) → u < buckets p → version_bytes (version_at b.versions u) ≡ version_bytes (version_at c.versions u) → version_at b.versions u ≡ version_at c.versions u
bucket_same p b c ob oc u lt e =
    let sb = (ob.versions u lt).slots in
    let sc = (oc.versions u lt).slots in
    version_same (version_at b.versions u) (version_at c.versions u) (fields_fit p b ob u lt) (fields_fit p c oc u lt) (sb.keys ∙ sym sc.keys) (sb.used ∙ sym sb.ranks) (sc.used ∙ sym sc.ranks) (sb.ranks ∙ sym sc.ranks) e

-- ---- the stash

abbrev row_at : List (ℕ × List ℕ) → ℕ → ℕ × List ℕ
row_at es i = slice_index_or es i (0, [])

splits : (es : List (ℕ × List ℕ)) → Rises es → (i : ℕ) → i < length es → Splits (row.row_key_at es i) es i
splits es r i lt = record {
  within = omega arith;
  before = λ j h. rises es r j i h lt;
  after = λ j h l. elim (cases_eq i j) [
    | inl same ↦ (let e : row.row_key_at es i ≡ row.row_key_at es j = ap (row.row_key_at es) same in omega arith)
    | inr ne ↦ (let more : row.row_key_at es i < row.row_key_at es j = rises es r i j (omega arith) l in omega arith)
  ];
}

-- each row is that of its key
pub row_is_of : (rows : Rows) (i : ℕ) → i < length (finite.entries rows) → finite.get rows (row_at (finite.entries rows) i).0 ≡ Some (row_at (finite.entries rows) i).1
row_is_of rows i lt =
    let es : List (ℕ × List ℕ) = finite.entries rows in
    finite.get-entries rows (row_at es i).0 ∙ find_at (row_at es i).0 es i (splits es (finite.entries_sorted rows) i lt) lt refl

pub row_key_low : (p : Params) (c : Content) → Obeys p c → (i : ℕ) → i < length (finite.entries c.rows) → (row_at (finite.entries c.rows) i).0 < p.keys
row_key_low p c o i lt =
    let k : ℕ = (row_at (finite.entries c.rows) i).0 in
    let there : finite.get c.rows k ≢ None = λ none. some≢none (sym (row_is_of c.rows i lt) ∙ none) in
    let low : k < length c.book = present_low c.book k ((o.stash k).0 there).0 in
    omega (arith, o.book.many)

pub row_short : (p : Params) (c : Content) → Obeys p c → (i : ℕ) → i < length (finite.entries c.rows) → length (row_at (finite.entries c.rows) i).1 ≤ 64
row_short p c o i lt = o.short (row_at (finite.entries c.rows) i).0 (row_at (finite.entries c.rows) i).1 (row_is_of c.rows i lt)

pub value_width : (room : ℕ) (v : List ℕ) → length v ≤ room → length (value_bytes room v) ≡ room + 1
value_width room v le = omega (arith, length-append v (replicate (room - length v) 0), length-replicate {A = ℕ} (room - length v) 0)

pub value_same : (room : ℕ) (v w : List ℕ) → value_bytes room v ≡ value_bytes room w → v ≡ w
value_same room v w e =
    let long : length v ≡ length w = ap (λ xs. get_or xs 0 0) e in
    (split_same v w (replicate (room - length v) 0) (replicate (room - length w) 0) long (ap (drop 1) e)).0

pub row_width : (r : ℕ × List ℕ) → length r.1 ≤ 64 → length (row_bytes r) ≡ 69
row_width r le = omega (arith, value_width 64 r.1 le)

row_same : (r s : ℕ × List ℕ) → r.0 < 2 ^ 32 → s.0 < 2 ^ 32 → row_bytes r ≡ row_bytes s → r ≡ s
row_same (k, v) (l, w) hr hs e =
    let one = front32 k l (value_bytes 64 v) (value_bytes 64 w) hr hs e in
    let keys : k ≡ l = one.0 in
    let values : v ≡ w = value_same 64 v w one.1 in
    rw (keys, values) refl

-- ---- all of it

content_is : (c c' : ℕ) (b b' : List (Option Entry)) (v v' : List Version) (s s' : Rows) → c ≡ c' → b ≡ b' → v ≡ v' → s ≡ s'
    → ◌≡◌ {A = Content} (record { counter = c; book = b; versions = v; rows = s }) (record { counter = c'; book = b'; versions = v'; rows = s' })
content_is c c' b b' v v' s s' d e f g = rw (d, e, f, g) refl

pub content_once : ContentOnce
unfolding checkpoint_bytes
content_once p d e b c hd he ob oc same =
    let few : 2 ^ p.levels ≤ 65536 = leaves_le p in
    let one = front64 d e _ _ hd he same in
    let two = front64 b.counter c.counter _ _ (omega (arith, ob.counter)) (omega (arith, oc.counter)) one.1 in
    let three = items_same entry_bytes 21 None b.book c.book _ _ (ob.book.many ∙ sym oc.book.many) (λ i lt. entry_width _) (λ i lt. entry_width _)
    (λ i lt. entry_same p _ _ (λ x is. ob.book.entries i x is) (λ x is. oc.book.entries i x is)) two.1 in
    let four = items_same version_bytes (meta_len p) no_version b.versions c.versions _ _ (ob.many ∙ sym oc.many)
    (λ i lt. version_width p b ob i (omega (arith, ob.many))) (λ i lt. version_width p c oc i (omega (arith, oc.many)))
    (λ i lt. bucket_same p b c ob oc i (omega (arith, ob.many))) three.1 in
    let eb : finite.len b.rows ≡ length (finite.entries b.rows) = finite.len-entries b.rows in
    let ec : finite.len c.rows ≡ length (finite.entries c.rows) = finite.len-entries c.rows in
    let five = front32 (finite.len b.rows) (finite.len c.rows) _ _ (omega (arith, p.in_range.few_room, ob.few)) (omega (arith, p.in_range.few_room, oc.few)) four.1 in
    let six = items_same row_bytes 69 (0, []) (finite.entries b.rows) (finite.entries c.rows) _ _ (sym eb ∙ five.0 ∙ ec)
    (λ i lt. row_width (row_at (finite.entries b.rows) i) (row_short p b ob i lt)) (λ i lt. row_width (row_at (finite.entries c.rows) i) (row_short p c oc i lt))
    (λ i lt. row_same _ _ (omega (arith, p.in_range.few_keys, row_key_low p b ob i lt)) (omega (arith, p.in_range.few_keys, row_key_low p c oc i (omega (arith, five.0))))) five.1 in
    (one.0, content_is b.counter c.counter b.book c.book b.versions c.versions b.rows c.rows two.0 three.0 four.0 (finite.same_entries_map b.rows c.rows six.0))

stash_width : (p : Params) (c : Content) → Obeys p c → length (stash_bytes p.room c.rows) ≡ 69 * p.room
stash_width p c o =
    let es : List (ℕ × List ℕ) = finite.entries c.rows in
    let e : finite.len c.rows ≡ length es = finite.len-entries c.rows in
    let rows : length (flat_map row_bytes es) ≡ length es * 69 = length-flat_map_wide row_bytes 69 (0, []) es (λ i lt. row_width (row_at es i) (row_short p c o i lt)) in
    let few : finite.len c.rows ≤ p.room = o.few in
    omega (arith, length-append (flat_map row_bytes es) (replicate (69 * (p.room - finite.len c.rows)) 0), length-replicate {A = ℕ} (69 * (p.room - finite.len c.rows)) 0)

pub content_length : ContentLength
unfolding checkpoint_bytes checkpoint_len
content_length p e c o =
    let book : length (flat_map entry_bytes c.book) ≡ length c.book * 21 = length-flat_map_wide entry_bytes 21 None c.book (λ i lt. entry_width _) in
    let versions : length (flat_map version_bytes c.versions) ≡ length c.versions * meta_len p = length-flat_map_wide version_bytes (meta_len p) no_version c.versions (λ i lt. version_width p c o i (omega (arith, o.many))) in
    let versions' : length (flat_map version_bytes c.versions) ≡ buckets p * meta_len p = versions ∙ ap (λ n. n * meta_len p) o.many in
    let many : length c.book ≡ p.keys = o.book.many in
    let stash : length (stash_bytes p.room c.rows) ≡ 69 * p.room = stash_width p c o in
    let tail : length (to_le_bytes w32 (finite.len c.rows) ++ stash_bytes p.room c.rows) ≡ 4 + 69 * p.room = omega (arith, length-append (to_le_bytes w32 (finite.len c.rows)) (stash_bytes p.room c.rows)) in
    let middle : length (flat_map version_bytes c.versions ++ (to_le_bytes w32 (finite.len c.rows) ++ stash_bytes p.room c.rows)) ≡ buckets p * meta_len p + (4 + 69 * p.room) =
    length-append (flat_map version_bytes c.versions) (to_le_bytes w32 (finite.len c.rows) ++ stash_bytes p.room c.rows) ∙ omega arith in
    let rest : length (flat_map entry_bytes c.book ++ (flat_map version_bytes c.versions ++ (to_le_bytes w32 (finite.len c.rows) ++ stash_bytes p.room c.rows))) ≡ 21 * p.keys + (buckets p * meta_len p + (4 + 69 * p.room)) =
    length-append (flat_map entry_bytes c.book) (flat_map version_bytes c.versions ++ (to_le_bytes w32 (finite.len c.rows) ++ stash_bytes p.room c.rows)) ∙ omega arith in
    omega arith
