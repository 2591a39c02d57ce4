-- What a state of a life keeps; and that what is hidden in it is where the life is.
use Rattle.std.specs.Prelude.{◌≡◌, ℕ, ◌+◌, ◌^◌, ◌<◌, ◌≤◌, List, [], ◌∷◌, ◌++◌, map, length, slice_index, Option, None, Some}
use Rattle.std.proofs.Common.{zero, suc, arith, refl, sym, ap, subst, ◌∙◌, inl, inr}
use Rattle.std.proofs.lemmas.Bool.{cases_lt}
use Rattle.std.proofs.lemmas.List.FromFn.{get_or-map-range_with_len, length-map-range_with_len}
use Rattle.ob_base.specs.Repeats.{Has}
use Rattle.ob_base.specs.Tree.{buckets, width}
use Rattle.ob_base.specs.declared.params.Params.{Params}
use Rattle.ob_fresh.specs.Drawn.{words_on}
use Rattle.ob_log.specs.Logs.{BatchRecord, RecordFits, RecordsFit, record_at}
use Rattle.ob_recover.proofs.LifeSlots.{AreSlotsSound}
use Rattle.ob_recover.specs.Life.{LifeBatch, LifeState, WordId, leaf_of_word}
use Rattle.ob_recover.specs.Lives.{AreWordsOf, IsLifeAt, life_batch, word_kept}
use Rattle.ob_stand.specs.Table.{flat_of}
use Rattle.ob_tables.specs.Buckets.{version_at}
use Rattle.ob_tables.specs.Content.{Obeys}
use Rattle.ob_tables.specs.Version.{Version, rank_at}
use Rattle.ob_tables.specs.declared.entry.Entry.{Entry}
use Rattle.ob_vault.specs.Acts.{IsBatchSmall}
use Rattle.ob_vault.specs.Shown.{IsInLife}
use Rattle.ob_deniable_draws.proofs.Contents.{content_hidden, entry_hidden, hidden_in, record_hidden, records_hidden, words_hidden}
use Rattle.ob_deniable_draws.specs.Fit.{AreAsksFit}
use Rattle.ob_deniable_draws.proofs.Lists.{map_more, map_same}
use Rattle.ob_deniable_draws.proofs.Obeying.{AreSmall, IsReady, book_is, obeys, table_is, version_is, version_out}

-- ---- records

module _ (p : Params) (tape : WordId → ℕ) where
  pub records_long : (b : ℕ) (log : List LifeBatch) → length (records_hidden p tape b log) ≡ length log
  records_long b [] = refl
  records_long b (r ∷ log) = ap suc (records_long (b + 1) log)

  records_life : (b : ℕ) (log : List LifeBatch) → map life_batch (records_hidden p tape b log) ≡ log
  records_life b [] = refl
  records_life b (r ∷ log) = ap (λ (rs : List LifeBatch). r ∷ rs) (records_life (b + 1) log)

  pub records_more : (b : ℕ) (log : List LifeBatch) (r : LifeBatch) → records_hidden p tape b (log ++ r ∷ []) ≡ records_hidden p tape b log ++ record_hidden p tape (b + length log) r ∷ []
  records_more b [] r = ap (λ (n : ℕ). record_hidden p tape n r ∷ []) (let z : b ≡ b + 0 = omega arith in z)
  records_more b (x ∷ log) r =
      ap (λ (rs : List BatchRecord). record_hidden p tape b x ∷ rs)
      (records_more (b + 1) log r ∙ ap (λ (n : ℕ). records_hidden p tape (b + 1) log ++ record_hidden p tape n r ∷ []) (let z : (b + 1) + length log ≡ b + suc (length log) = omega arith in z))

  record_words : (b : ℕ) (r : LifeBatch) → AreWordsOf tape (record_hidden p tape b r)
  record_words b r i low = sym (get_or-map-range_with_len (λ j. tape (words_on r.first j)) 0 (length r.asks) i i 0 low (omega arith))

  records_words : (b : ℕ) (log : List LifeBatch) (r : BatchRecord) → Has (records_hidden p tape b log) r → AreWordsOf tape r
  records_words b [] r has = absurd has
  records_words b (x ∷ log) r (inl is) = subst (AreWordsOf tape) is (record_words b x)
  records_words b (x ∷ log) r (inr has) = records_words (b + 1) log r has

  record_fits : (b : ℕ) (r : LifeBatch) → AreAsksFit p r.asks → RecordFits p b (record_hidden p tape b r)
  record_fits b r fit = record {
    batch_is = refl;
    asks_many = fit.whole;
    words_many = length-map-range_with_len (λ j. tape (words_on r.first j)) 0 (length r.asks) ∙ fit.whole;
    keys_low = fit.low;
    keys_apart = fit.apart;
  }

  records_each : (b : ℕ) (log : List LifeBatch) (i : ℕ) → ((r : LifeBatch) → Has log r → AreAsksFit p r.asks) → i < length log → RecordFits p (b + i) (record_at (records_hidden p tape b log) i)
  records_each b [] i fit low = absurd (omega arith)
  records_each b (x ∷ log) zero fit low = subst (λ (n : ℕ). RecordFits p n (record_hidden p tape b x)) (let z : b ≡ b + 0 = omega arith in z) (record_fits b x (fit x (inl refl)))
  records_each b (x ∷ log) (suc i) fit low =
      subst (λ (n : ℕ). RecordFits p n (record_at (records_hidden p tape (b + 1) log) i)) (let z : (b + 1) + i ≡ b + suc i = omega arith in z) (records_each (b + 1) log i (λ r has. fit r (inr has)) (omega arith))

  pub records_fit : (log : List LifeBatch) → length log ≤ p.batches → ((r : LifeBatch) → Has log r → AreAsksFit p r.asks) → RecordsFit p (records_hidden p tape 0 log)
  records_fit log few fit = record {
    few = omega (arith, few, records_long 0 log);
    each = λ b low. subst (λ (n : ℕ). RecordFits p n (record_at (records_hidden p tape 0 log) b)) (let z : 0 + b ≡ b = omega arith in z) (records_each 0 log b fit (omega (arith, low, records_long 0 log)));
  }

  -- ---- words

  pub words_more : (g n m : ℕ) → words_hidden p tape (record { generation = g; place = 0 }) (n + m) ≡ words_hidden p tape (record { generation = g; place = 0 }) n ++ words_hidden p tape (record { generation = g; place = n }) m
  words_more g n m =
      map_more (λ i. tape (words_on (record { generation = g; place = 0 }) i)) 0 n m
      ∙ ap (λ (xs : List ℕ). words_hidden p tape (record { generation = g; place = 0 }) n ++ xs)
      (map_same (λ i. tape (words_on (record { generation = g; place = 0 }) i)) (λ i. tape (words_on (record { generation = g; place = n }) i)) (0 + n) 0 m
      (λ i low. ap (λ (k : ℕ). tape (record { generation = g; place = k })) (let z : 0 + ((0 + n) + i) ≡ n + (0 + i) = omega arith in z)))

  pub words_long : (first : WordId) (n : ℕ) → length (words_hidden p tape first n) ≡ n
  words_long first n = length-map-range_with_len (λ i. tape (words_on first i)) 0 n

  pub word_at : (first : WordId) (n i : ℕ) → i < n → slice_index (words_hidden p tape first n) i ≡ tape (words_on first i)
  word_at first n i low = get_or-map-range_with_len (λ j. tape (words_on first j)) 0 n i i 0 low (omega arith)

  -- ---- a state

  -- words of this generation or of earlier ones, their places small
  abbrev pub AreFrom : ℕ → (ℕ → Option WordId) → Type 0
  AreFrom g book = (k : ℕ) (w : WordId) → book k ≡ Some w → (w.generation ≤ g) × (w.place < 2 ^ 64)

  pub record Stays (s : LifeState) : Type 0 where
    pub ready : IsReady p tape s.content
    pub held : AreFrom s.generation s.content.book
    pub logged : (b : LifeBatch) → Has s.log b → (b.first.generation ≤ s.generation) × IsBatchSmall b × AreAsksFit p b.asks
    pub few : length s.log ≤ p.batches
    pub slots : AreSlotsSound p tape s

  entry_word : (o : Option WordId) → o ≡ word_kept (entry_hidden p tape o)
  entry_word None = refl
  entry_word (Some w) = refl

  entry_leaf : (o : Option WordId) (e : Entry) → entry_hidden p tape o ≡ Some e → e.leaf ≡ leaf_of_word p tape (record { generation = e.generation; place = e.index })
  entry_leaf None e is = absurd (cc)
  entry_leaf (Some w) e is = (let same : record { generation = w.generation; index = w.place; leaf = leaf_of_word p tape w } ≡ e = cc in subst (λ (x : Entry). x.leaf ≡ leaf_of_word p tape (record { generation = x.generation; place = x.index })) same refl)

  module _ (s : LifeState) (stays : Stays s) (low : s.generation < 2 ^ 64) (room : p.keys ≤ p.room) where
    small_words : AreSmall p tape s.content.book
    small_words k w e = (let h = (stays.held k w e).0 in omega arith, (stays.held k w e).1)

    pub content_obeys : Obeys p (content_hidden p tape s.content)
    content_obeys = obeys p tape s.content stays.ready small_words room

    pub table_of : flat_of p (content_hidden p tape s.content) ≡ s.content.table
    table_of = table_is p tape s.content stays.ready content_obeys

    pub home_is : (u : ℕ) → s.content.home u ≡ (version_at (content_hidden p tape s.content).versions u).home
    home_is u = elim (cases_lt u (buckets p)) [
      | inl in' ↦ ap (λ (v : Version). v.home) (sym (version_is p tape s.content stays.ready u in'))
      | inr out ↦ stays.ready.home_out u out ∙ ap (λ (v : Version). v.home) (sym (version_out p tape s.content stays.ready u out))
    ]

    pub life_at : IsLifeAt p tape (content_hidden p tape s.content) (records_hidden p tape 0 s.log) s
    life_at = record {
      table = sym table_of;
      slots = λ u j in' lt. sym (ap (λ (v : Version). rank_at v j) (version_is p tape s.content stays.ready u in') ∙ get_or-map-range_with_len (s.content.slot u) 0 (width p) j j 0 lt (omega arith));
      homes = home_is;
      book = λ k. entry_word (s.content.book k) ∙ ap word_kept (sym (book_is p tape s.content stays.ready k));
      kept = λ k e is. entry_leaf (s.content.book k) e (sym (book_is p tape s.content stays.ready k) ∙ is);
      log = sym (records_life 0 s.log);
      words = λ r has. records_words 0 s.log r has;
    }

    pub in_life : (seals : ℕ) → s.begun ≡ length s.log → IsInLife p tape (hidden_in p tape s seals) s
    in_life seals begun = record {
      obeys = content_obeys;
      fit = records_fit s.log stays.few (λ r has. (stays.logged r has).2);
      life = life_at;
      small = λ r has. (stays.logged r has).1;
      epoch = refl;
      generation = refl;
      drawn = sym (words_long (record { generation = s.generation; place = 0 }) s.drawn);
      begun = begun;
    }
