-- The ids and the leaves that entries keep behind the batches of records.
use Rattle.std.specs.Prelude.{◌≡◌, ℕ, zero, suc, ◌+◌, ◌<◌, ◌≤◌, ◌%◌, ◌^◌, Bool, true, false, cond, List, [], ◌∷◌, map, length, slice_index, slice_index_or, Option, Some, None}
use Rattle.std.specs.List.{range_with_len}
use Rattle.std.proofs.Common.{arith, refl, sym, ap, subst, ◌∙◌, add-one, inl, inr}
use mathlib.Core.Path.{fun_ext}
use Rattle.ob_base.specs.Repeats.{Has}
use Rattle.ob_base.specs.Tree.{below}
use Rattle.ob_base.specs.declared.params.Params.{Params}
use Rattle.ob_recover.specs.Life.{WordId, batch_places, book_after, book_after_log, leaf_of_word, with_words}
use Rattle.ob_log.specs.Logs.{BatchRecord}
use Rattle.ob_recover.specs.Repeats.{entries_after_records, record_places}
use Rattle.ob_ring.specs.Fetching.{after_labels, own_entry}
use Rattle.ob_ring.specs.FlatTable.{after_label, asks_for, rebound}
use Rattle.ob_recover.specs.Lives.{AreWordsOf, life_batch, word_kept}
use Rattle.ob_tables.specs.declared.entry.Entry.{Entry}

-- ---- lists

pub shift_any : {X : Type 0} (f : ℕ → X) (a n : ℕ) → map f (range_with_len (a + 1) n) ≡ map (λ i. f (i + 1)) (range_with_len a n)
shift_any f a zero = refl
shift_any {X} f a (suc n) = ap (λ (xs : List X). f (a + 1) ∷ xs) (shift_any f (a + 1) n)

map_twice : {X Y Z : Type 0} (f : Y → Z) (g : X → Y) (xs : List X) → map f (map g xs) ≡ map (λ x. f (g x)) xs
map_twice f g [] = refl
map_twice {Z = Z} f g (x ∷ xs) = ap (λ (ys : List Z). f (g x) ∷ ys) (map_twice f g xs)

next_ask : (a : Option ℕ) (rest : List (Option ℕ)) (i : ℕ) → slice_index_or (a ∷ rest) (i + 1) None ≡ slice_index_or rest i None
next_ask a rest i = rw add-one refl

pub small_mod : (n : ℕ) → n < 2 ^ 64 → n % 2 ^ 64 ≡ n
small_mod n lt = omega (arith, lt)

-- ---- ids

pub id_of : Entry → WordId
id_of e = record { generation = e.generation; place = e.index }

abbrev id_place : Option ℕ × Entry → Option ℕ × WordId
id_place a = (a.0, record { generation = (a.1).generation; place = (a.1).index })

pub kept_cond : (b : Bool) (x y : Option Entry) → word_kept (cond b x y) ≡ cond b (word_kept x) (word_kept y)
kept_cond true x y = refl
kept_cond false x y = refl

rebound_ids : (b : Bool) (e : Entry) (o : Option Entry) → rebound b (record { generation = e.generation; place = e.index }) (word_kept o) ≡ word_kept (rebound b e o)
rebound_ids b e None = refl
rebound_ids true e (Some x) = refl
rebound_ids false e (Some x) = refl

labels_ids : (places : List (Option ℕ × Entry)) (entries : ℕ → Option Entry) (book : ℕ → Option WordId) → ((k : ℕ) → book k ≡ word_kept (entries k)) → (k : ℕ) → book_after book (map id_place places) k ≡ word_kept (after_labels entries places k)
labels_ids [] entries book same k = same k
labels_ids (a ∷ rest) entries book same k =
    labels_ids rest (after_label entries a.0 a.1) (after_label book a.0 (record { generation = (a.1).generation; place = (a.1).index }))
    (λ i. ap (λ (o : Option WordId). rebound (asks_for a.0 i) (record { generation = (a.1).generation; place = (a.1).index }) o) (same i) ∙ rebound_ids (asks_for a.0 i) a.1 (entries i))
    k

-- the places of a batch, by their number
abbrev place_by : (g first : ℕ) → List (Option ℕ) → ℕ → Option ℕ × WordId
place_by g first asks i = (slice_index_or asks i None, record { generation = g; place = (first + i) % 2 ^ 64 })

places_by : (g first : ℕ) (asks : List (Option ℕ)) → first + length asks ≤ 2 ^ 64 → map (place_by g first asks) (below (length asks)) ≡ with_words (record { generation = g; place = first }) asks
places_by g first [] small = refl
places_by g first (a ∷ rest) small =
    let here : (first + 0) % 2 ^ 64 ≡ first = omega (arith, small) in
    let next : (λ (i : ℕ). place_by g first (a ∷ rest) (i + 1)) ≡ place_by g (first + 1) rest = fun_ext (λ i.
    ap (λ (o : Option ℕ). (o, record { generation = g; place = (first + (i + 1)) % 2 ^ 64 })) (next_ask a rest i)
    ∙ ap (λ (n : ℕ). (slice_index_or rest i None, record { generation = g; place = n % 2 ^ 64 })) (let e : first + (i + 1) ≡ (first + 1) + i = omega arith in e)) in
    (λ j. (a, record { generation = g; place = here j }) ∷ (shift_any (place_by g first (a ∷ rest)) 0 (length rest) ∙ ap (λ (f : ℕ → Option ℕ × WordId). map f (below (length rest))) next
    ∙ places_by g (first + 1) rest (omega (arith, small))) j)

module _ (p : Params) where
  pub record_ids : (r : BatchRecord) → r.first + length r.asks ≤ 2 ^ 64 → map id_place (record_places p r) ≡ batch_places (life_batch r)
  record_ids r small =
      map_twice id_place (λ i. (slice_index_or r.asks i None, own_entry p r.words (r.generation, r.first) i)) (below (length r.asks))
      ∙ places_by r.generation r.first r.asks small

  module _ (word_of : WordId → ℕ) where
    pub records_ids : (rs : List BatchRecord) (entries : ℕ → Option Entry) (book : ℕ → Option WordId) → ((r : BatchRecord) → Has rs r → r.first + length r.asks ≤ 2 ^ 64) → ((k : ℕ) → book k ≡ word_kept (entries k))
        → (k : ℕ) → book_after_log p word_of book (map life_batch rs) k ≡ word_kept (entries_after_records p entries rs k)
    records_ids [] entries book small same k = same k
    records_ids (r ∷ rs) entries book small same k =
        records_ids rs (after_labels entries (record_places p r)) (book_after book (batch_places (life_batch r))) (λ x has. small x (inr has))
        (λ i. ap (λ (places : List (Option ℕ × WordId)). book_after book places i) (sym (record_ids r (small r (inl refl)))) ∙ labels_ids (record_places p r) entries book same i)
        k

    -- ---- leaves

    -- its leaf is the low bits of its word
    abbrev pub Fits : Entry → Type 0
    Fits e = e.leaf ≡ leaf_of_word p word_of (record { generation = e.generation; place = e.index })

    pub own_fits : (g first : ℕ) (words : List ℕ) (i : ℕ) → first + i < 2 ^ 64 → word_of (record { generation = g; place = first + i }) ≡ slice_index words i → Fits (own_entry p words (g, first) i)
    own_fits g first words i small given =
        ap (λ n. n % 2 ^ p.levels) (sym (ap (λ n. word_of (record { generation = g; place = n })) (small_mod (first + i) small) ∙ given))

    abbrev pub AllFit : List (Option ℕ × Entry) → Type 0
    AllFit [] = Unit {0}
    AllFit (a ∷ rest) = Fits a.1 × AllFit rest

    all_fit : (f : ℕ → Option ℕ × Entry) (a n : ℕ) → ((i : ℕ) → a ≤ i → i < a + n → Fits (f i).1) → AllFit (map f (range_with_len a n))
    all_fit f a zero each = tt
    all_fit f a (suc n) each = (each a (omega arith) (omega arith), all_fit f (a + 1) n (λ i from to. each i (omega (arith, from)) (omega (arith, to))))

    rebound_fits : (b : Bool) (own : Entry) (o : Option Entry) (e : Entry) → Fits own → ((x : Entry) → o ≡ Some x → Fits x) → rebound b own o ≡ Some e → Fits e
    rebound_fits b own None e fits was is = absurd (cc)
    rebound_fits true own (Some x) e fits was is = subst Fits (let same : own ≡ e = cc in same) fits
    rebound_fits false own (Some x) e fits was is = subst Fits (let same : x ≡ e = cc in same) (was x refl)

    labels_fit : (places : List (Option ℕ × Entry)) (entries : ℕ → Option Entry) → AllFit places → ((k : ℕ) (e : Entry) → entries k ≡ Some e → Fits e) → (k : ℕ) (e : Entry) → after_labels entries places k ≡ Some e → Fits e
    labels_fit [] entries all was k e is = was k e is
    labels_fit (a ∷ rest) entries all was k e is = labels_fit rest (after_label entries a.0 a.1) all.1 (λ i x at. rebound_fits (asks_for a.0 i) a.1 (entries i) x all.0 (was i) at) k e is

    record_fits : (r : BatchRecord) → r.first + length r.asks ≤ 2 ^ 64 → AreWordsOf word_of r → AllFit (record_places p r)
    record_fits r small given =
        all_fit (λ i. (slice_index_or r.asks i None, own_entry p r.words (r.generation, r.first) i)) 0 (length r.asks)
        (λ i from to. own_fits r.generation r.first r.words i (omega (arith, small, to)) (given i (omega (arith, to))))

    pub records_fit : (rs : List BatchRecord) (entries : ℕ → Option Entry) → ((r : BatchRecord) → Has rs r → r.first + length r.asks ≤ 2 ^ 64) → ((r : BatchRecord) → Has rs r → AreWordsOf word_of r)
        → ((k : ℕ) (e : Entry) → entries k ≡ Some e → Fits e) → (k : ℕ) (e : Entry) → entries_after_records p entries rs k ≡ Some e → Fits e
    records_fit [] entries small given was k e is = was k e is
    records_fit (r ∷ rs) entries small given was k e is =
        records_fit rs (after_labels entries (record_places p r)) (λ x has. small x (inr has)) (λ x has. given x (inr has))
        (labels_fit (record_places p r) entries (record_fits r (small r (inl refl)) (given r (inl refl))) was) k e is
