-- What fills the holes of batches is what a life shows, whatever their records ask for, if each has as many places as a batch.
use Rattle.std.specs.Prelude.{◌≡◌, ℕ, zero, suc, ◌+◌, ◌<◌, ◌%◌, ◌^◌, List, [], ◌∷◌, ◌++◌, map, length, slice_index, slice_index_or, Option, Some, None}
use Rattle.std.specs.List.{range_with_len}
use Rattle.std.proofs.Common.{arith, refl, sym, ap, subst, ◌∙◌, add-one, inl, inr}
use Rattle.std.proofs.lemmas.List.{map-append}
use mathlib.Core.Path.{fun_ext}
use Rattle.ob_base.specs.declared.params.Params.{Params}
use Rattle.ob_base.specs.Tree.{below}
use Rattle.ob_base.specs.Repeats.{Has}
use Rattle.ob_tables.specs.Content.{Content, Obeys}
use Rattle.ob_stand.specs.Table.{flat_of, lying_place, row_for}
use Rattle.ob_recover.specs.Life.{LifeContent, LifeState, SlotFill, WordId, batch_places, book_after, leaf_of_word, leaves, log_slots, phase_labels, slot_fill, slots_of, with_words}
use Rattle.ob_recover.proofs.BookLaws.{IsBookOf, book_batch, kept_leaf, label_leaves, low_bits}
use Rattle.ob_log.specs.Logs.{BatchRecord}
use Rattle.ob_recover.specs.Repeats.{asked_of_record}
use Rattle.ob_ring.specs.Fetching.{own_entry}
use Rattle.ob_ring.specs.FlatTable.{Batch, FlatTable, Shown, after, after_batch, leaves_shown, picks}
use Rattle.ob_schedule.specs.Schedule.{Fills, batch_leaves}
use Rattle.ob_tables.specs.Kept.{entry_at}
use Rattle.ob_tables.specs.declared.entry.Entry.{Entry}
use Rattle.ob_recover.specs.Known.{AreSlotsOf, fills_of, leaves_of_records, picks_of_records, slot_kept}
use Rattle.ob_recover.specs.Lives.{AreWordsOf, IsLifeAt, life_batch, word_kept}
use Rattle.ob_recover.proofs.Tree.{records_in_tree}
use Rattle.ob_recover.proofs.Fills.{fills_own, items_of}
use Rattle.ob_recover.proofs.ShownOpening.{AreWide, asked_long, leaves_long}

-- ---- places

shift_any : {X : Type 0} (f : ℕ → X) (a n : ℕ) → map f (range_with_len (a + 1) n) ≡ map (λ i. f (i + 1)) (range_with_len a n)
shift_any f a zero = refl
shift_any {X} f a (suc n) = ap (λ (xs : List X). f (a + 1) ∷ xs) (shift_any f (a + 1) n)

map_twice : {X Y Z : Type 0} (f : Y → Z) (g : X → Y) (xs : List X) → map f (map g xs) ≡ map (λ x. f (g x)) xs
map_twice f g [] = refl
map_twice {Z = Z} f g (x ∷ xs) = ap (λ (ys : List Z). f (g x) ∷ ys) (map_twice f g xs)

next_ask : (a : Option ℕ) (rest : List (Option ℕ)) (i : ℕ) → slice_index_or (a ∷ rest) (i + 1) None ≡ slice_index_or rest i None
next_ask a rest i = rw add-one refl

module _ (p : Params) (word_of : WordId → ℕ) where
  -- places by their number, where the tape gives each its word
  abbrev place_by : List (Option ℕ) → (ℕ → ℕ) → ℕ → Option ℕ × ℕ
  place_by asks words i = (slice_index_or asks i None, words i % 2 ^ p.levels)

  places_by : (g first : ℕ) (asks : List (Option ℕ)) (words : ℕ → ℕ) → ((i : ℕ) → i < length asks → word_of (record { generation = g; place = first + i }) ≡ words i)
      → map (place_by asks words) (below (length asks)) ≡ leaves p word_of (with_words (record { generation = g; place = first }) asks)
  places_by g first [] words given = refl
  places_by g first (a ∷ rest) words given =
      let z : first ≡ first + 0 = omega arith in
      let here : words 0 ≡ word_of (record { generation = g; place = first }) = sym (ap (λ (n : ℕ). word_of (record { generation = g; place = n })) z ∙ given 0 (omega arith)) in
      let next : (λ (i : ℕ). place_by (a ∷ rest) words (i + 1)) ≡ place_by rest (λ i. words (i + 1)) = fun_ext (λ i. ap (λ (o : Option ℕ). (o, words (i + 1) % 2 ^ p.levels)) (next_ask a rest i)) in
      (λ j. (a, here j % 2 ^ p.levels) ∷ (shift_any (place_by (a ∷ rest) words) 0 (length rest) ∙ ap (λ (f : ℕ → Option ℕ × ℕ). map f (below (length rest))) next
      ∙ places_by g (first + 1) rest (λ i. words (i + 1)) (λ i lt. (let e : (first + 1) + i ≡ first + (i + 1) = omega arith in ap (λ (n : ℕ). word_of (record { generation = g; place = n })) e ∙ given (i + 1) (omega arith)))) j)

  places_are : (r : BatchRecord) → AreWordsOf word_of r → asked_of_record p r ≡ leaves p word_of (batch_places (life_batch r))
  places_are r given =
      map_twice (λ (a : Option ℕ × Entry). (a.0, (a.1).leaf)) (λ i. (slice_index_or r.asks i None, own_entry p r.words (r.generation, r.first) i)) (below (length r.asks))
      ∙ places_by r.generation r.first r.asks (λ i. slice_index r.words i) given

  -- ---- picks

  slots_agree : (e : ℕ) (c : LifeContent) (t : FlatTable) (rs : List BatchRecord) → ((r : BatchRecord) → Has rs r → AreWordsOf word_of r) → log_slots p word_of e c t (map life_batch rs) ≡ slots_of e c (picks_of_records p t rs)
  slots_agree e c t [] given = refl
  slots_agree e c t (r ∷ rs) given =
      let asked : List (Option ℕ × ℕ) = asked_of_record p r in
      let t1 : FlatTable = after p t (Batch asked) in
      ap (λ (xs : List (Option ℕ × ℕ)). slots_of e c (picks p t (Batch xs)) ++ log_slots p word_of e c (after p t (Batch xs)) (map life_batch rs)) (sym (places_are r (given r (inl refl))))
      ∙ ap (λ (fs : List SlotFill). slots_of e c (picks p t (Batch asked)) ++ fs) (slots_agree e c t1 rs (λ x has. given x (inr has)))
      ∙ sym (map-append (slot_fill e c) (picks p t (Batch asked)) (picks_of_records p t1 rs))

  -- ---- labels

  labels_agree : (e b : ℕ) (t : FlatTable) (book : ℕ → Option WordId) (rs : List BatchRecord) (n : ℕ) → ((r : BatchRecord) → Has rs r → AreWordsOf word_of r) → IsBookOf p word_of t book
      → map (λ l. leaf_of_word p word_of l.word) (phase_labels p word_of e b book (map life_batch rs) n) ≡ slice_index_or (leaves_of_records p t rs) n []
  labels_agree e b t book [] n given is = refl
  labels_agree e b t book (r ∷ rs) zero given is =
      sym (label_leaves p word_of t book e b 0 (batch_places (life_batch r)) is) ∙ ap (λ (xs : List (Option ℕ × ℕ)). leaves_shown p t xs) (sym (places_are r (given r (inl refl))))
  labels_agree e b t book (r ∷ rs) (suc n) given is =
      let same : asked_of_record p r ≡ leaves p word_of (batch_places (life_batch r)) = places_are r (given r (inl refl)) in
      let later : IsBookOf p word_of (after p t (Batch (asked_of_record p r))) (book_after book (batch_places (life_batch r))) =
      subst (λ (xs : List (Option ℕ × ℕ)). IsBookOf p word_of (after_batch p t xs) (book_after book (batch_places (life_batch r)))) (sym same) (book_batch p word_of t book (batch_places (life_batch r)) is) in
      labels_agree e (b + 1) (after p t (Batch (asked_of_record p r))) (book_after book (batch_places (life_batch r))) rs n (λ x has. given x (inr has)) later

-- each batch's leaves are as many as it has places
lists_wide : (p : Params) (t : FlatTable) (rs : List BatchRecord) (b : ℕ) → AreWide p rs → b < length rs → length (slice_index_or (leaves_of_records p t rs) b []) ≡ p.places
lists_wide p t [] b wide lt = absurd (omega arith)
lists_wide p t (r ∷ rs) zero wide lt = leaves_long p t (asked_of_record p r) ∙ asked_long p r ∙ wide 0 (omega arith)
lists_wide p t (r ∷ rs) (suc b) wide lt = lists_wide p (after p t (Batch (asked_of_record p r))) rs b (λ i low. wide (suc i) (omega arith)) (omega arith)

pub filled_leaves : (p : Params) (c : Content) (rs : List BatchRecord) (b : ℕ) → AreWide p rs → b < length rs → batch_leaves p (fills_of p c rs) b ≡ slice_index_or (leaves_of_records p (flat_of p c) rs) b []
filled_leaves p c rs b wide lt =
    let xs : List ℕ = slice_index_or (leaves_of_records p (flat_of p c) rs) b [] in
    ap (λ (n : ℕ). map (λ i. slice_index xs i) (below n)) (sym (lists_wide p (flat_of p c) rs b wide lt)) ∙ items_of xs

-- ---- slots

-- what a list of picks shows has the slots that fill its holes
filled_slots : (e : ℕ) (c : LifeContent) (k : Content) (shown : List Shown) (fills : Fills) → ((s : Shown) → Has shown s → c.slot s.bucket s.index ≡ slot_kept k s.bucket s.index) → AreSlotsOf k shown fills → (f : SlotFill) → Has (slots_of e c shown) f → f.slot
    ≡ fills.slot (record { bucket = f.bucket; number = f.number })
filled_slots e c k [] fills slots own f has = absurd has
filled_slots e c k (s ∷ ss) fills slots own f (inl is) =
    subst (λ (x : SlotFill). x.slot ≡ fills.slot (record { bucket = x.bucket; number = x.number })) is (slots s (inl refl) ∙ sym (own s (inl refl)))
filled_slots e c k (s ∷ ss) fills slots own f (inr has) = filled_slots e c k ss fills (λ x h. slots x (inr h)) (λ x h. own x (inr h)) f has

-- ---- a content's book

row_words : (p : Params) (word_of : WordId → ℕ) (c : Content) (k : ℕ) (o : Option Entry) → ((e : Entry) → o ≡ Some e → e.leaf ≡ leaf_of_word p word_of (record { generation = e.generation; place = e.index }))
    → kept_leaf (row_for o (lying_place p c.versions k)) ≡ low_bits p word_of (word_kept o)
row_words p word_of c k None kept = refl
row_words p word_of c k (Some e) kept = ap Some (kept e refl)

-- each batch's labels, and each slot of the batches
pub record ShowFills (p : Params) (word_of : WordId → ℕ) (c : Content) (rs : List BatchRecord) (s : LifeState) : Type 0 where
  pub labels : (b : ℕ) → b < length rs → map (λ l. leaf_of_word p word_of l.word) (phase_labels p word_of (s.epoch + 1) 0 (s.content).book s.log b) ≡ batch_leaves p (fills_of p c rs) b
  pub slots : (f : SlotFill) → Has (log_slots p word_of (s.epoch + 1) s.content (s.content).table s.log) f → f.slot ≡ (fills_of p c rs).slot (record { bucket = f.bucket; number = f.number })

pub wide_show : (p : Params) (word_of : WordId → ℕ) (c : Content) (rs : List BatchRecord) (s : LifeState) → Obeys p c → AreWide p rs → IsLifeAt p word_of c rs s → ShowFills p word_of c rs s
wide_show p word_of c rs s obeys wide life =
    let e : ℕ = s.epoch + 1 in
    let book : IsBookOf p word_of (flat_of p c) (s.content).book = λ k. row_words p word_of c k (entry_at c.book k) (life.kept k) ∙ ap (low_bits p word_of) (sym (life.book k)) in
    record {
      labels = λ b lt. ap (λ log. map (λ l. leaf_of_word p word_of l.word) (phase_labels p word_of e 0 (s.content).book log b)) life.log
          ∙ labels_agree p word_of e 0 (flat_of p c) (s.content).book rs b life.words book ∙ sym (filled_leaves p c rs b wide lt);
      slots = λ f has. filled_slots e s.content c (picks_of_records p (flat_of p c) rs) (fills_of p c rs) (λ x h. (let low = records_in_tree p c rs obeys x h in life.slots x.bucket x.index low.0 low.1)) (fills_own p c rs obeys).slots f
          (subst (λ (fs : List SlotFill). Has fs f) ((λ i. log_slots p word_of e s.content (life.table i) (life.log i)) ∙ slots_agree p word_of e s.content (flat_of p c) rs life.words) has);
    }
