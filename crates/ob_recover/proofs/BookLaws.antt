-- The leaf that a place shows is the low bits of the word that its label hole shows.
use Rattle.std.specs.Prelude.{◌≡◌, ℕ, ◌+◌, ◌==◌, Bool, true, false, cond, List, [], ◌∷◌, map, Option, unwrap_or}
use Rattle.std.specs.declared.option.Option.TheVariants.{None, Some}
use Rattle.std.specs.List.{position_or_len}
use Rattle.std.proofs.Common.{refl, ◌∙◌}
use Rattle.std.proofs.lemmas.Bool.{cond_both}
use Rattle.ob_base.specs.declared.params.Params.{Params}
use Rattle.ob_base.specs.Tree.{path}
use Rattle.ob_schedule.specs.Paths.{is_one_of, eviction_path}
use Rattle.ob_ring.specs.FlatTable.{FlatTable, Row, Spot, FinalLifts, Writes, Refill, after, spot_of, leaf_of, asked_row, asks_for, fetched, fetch, leaf_shown, mark_index, lift, leave, visit, visits}
use Rattle.ob_ring.specs.FlatTable.{after_place, after_batch, leaves_shown, after_final, written_row, write, after_writes, fill, fills, placed, chosen, refill_order, index_shown, reads, shown_label}
use Rattle.ob_ring.specs.FlatTable.{rebound, after_label}
use Rattle.ob_recover.specs.Life.{WordId, labels_of, book_after, leaf_of_word, leaves, leaf_of_put, leaf_write, book_written}

abbrev pub kept_leaf : Option Row → Option ℕ
kept_leaf None = None
kept_leaf (Some r) = Some r.leaf

module _ (p : Params) (word_of : WordId → ℕ) where
  abbrev pub low_bits : Option WordId → Option ℕ
  low_bits None = None
  low_bits (Some w) = Some (leaf_of_word p word_of w)

  -- the rows are the book's: a key is present in both or in neither, its leaf the low bits of its word
  abbrev pub IsBookOf : FlatTable → (ℕ → Option WordId) → Type 0
  IsBookOf t book = (k : ℕ) → kept_leaf (t.rows k) ≡ low_bits (book k)

  abbrev SameRows : FlatTable → FlatTable → Type 0
  SameRows t t' = (k : ℕ) → kept_leaf (t'.rows k) ≡ kept_leaf (t.rows k)

  kept-leave : (u : ℕ) (r : Option Row) → kept_leaf (leave u r) ≡ kept_leaf r
  kept-leave u None = refl
  kept-leave u (Some r) = refl

  kept-placed : (u i : ℕ) (goes : Bool) (r : Option Row) → kept_leaf (placed u goes i r) ≡ kept_leaf r
  kept-placed u i goes None = refl
  kept-placed u i goes (Some r) = refl

  rows_visit : (t : FlatTable) (own : Spot) (u : ℕ) → SameRows t (visit p t own u)
  rows_visit t own u =
      cond_both (t.lifted u) t (cond (reads p t u + 1 == p.dummies) (lift (mark_index t u (index_shown p t own u)) u) (mark_index t u (index_shown p t own u))) (SameRows t) (λ e k. refl)
      (λ e. cond_both (reads p t u + 1 == p.dummies) (lift (mark_index t u (index_shown p t own u)) u) (mark_index t u (index_shown p t own u)) (SameRows t) (λ f k. kept-leave u (t.rows k)) (λ f k. refl))

  rows_visits : (t : FlatTable) (own : Spot) (us : List ℕ) → SameRows t (visits p t own us)
  rows_visits t own [] k = refl
  rows_visits t own (u ∷ us) k = rows_visits (visit p t own u) own us k ∙ rows_visit t own u k

  book_fetched : (asked : Bool) (own : WordId) (r : Option Row) (o : Option WordId) → kept_leaf r ≡ low_bits o → kept_leaf (fetched asked (leaf_of_word p word_of own) r) ≡ low_bits (rebound asked own o)
  book_fetched asked own None None e = refl
  book_fetched asked own None (Some w) e = absurd (cc)
  book_fetched asked own (Some r) None e = absurd (cc)
  book_fetched true own (Some r) (Some w) e = refl
  book_fetched false own (Some r) (Some w) e = e

  leaf_default : (r : Option Row) (o : Option WordId) (own : WordId) → kept_leaf r ≡ low_bits o → leaf_of r (leaf_of_word p word_of own) ≡ leaf_of_word p word_of (unwrap_or o own)
  leaf_default None None own e = refl
  leaf_default None (Some w) own e = absurd (cc)
  leaf_default (Some r) None own e = absurd (cc)
  leaf_default (Some r) (Some w) own e = cc

  pub label_bits : (t : FlatTable) (book : ℕ → Option WordId) (ask : Option ℕ) (own : WordId) → IsBookOf t book → leaf_shown t ask (leaf_of_word p word_of own) ≡ leaf_of_word p word_of (shown_label book ask own)
  label_bits t book None own h = refl
  label_bits t book (Some k) own h = leaf_default (t.rows k) (book k) own (h k)

  pub book_place : (t : FlatTable) (book : ℕ → Option WordId) (ask : Option ℕ) (own : WordId) → IsBookOf t book → IsBookOf (after_place p t ask (leaf_of_word p word_of own)) (after_label book ask own)
  book_place t book ask own h k =
      rows_visits (fetch t ask (leaf_of_word p word_of own)) (spot_of (asked_row t ask)) (path p (leaf_shown t ask (leaf_of_word p word_of own))) k
      ∙ book_fetched (asks_for ask k) own (t.rows k) (book k) (h k)

  -- a batch's leaves are the low bits of its labels
  pub label_leaves : (t : FlatTable) (book : ℕ → Option WordId) (e b i : ℕ) (places : List (Option ℕ × WordId)) → IsBookOf t book → leaves_shown p t (leaves p word_of places) ≡ map (λ l. leaf_of_word p word_of l.word) (labels_of e b i book places)
  label_leaves t book e b i [] h = refl
  label_leaves t book e b i (a ∷ rest) h = λ j. label_bits t book a.0 a.1 h j ∷ label_leaves (after_place p t a.0 (leaf_of_word p word_of a.1)) (after_label book a.0 a.1) e b (i + 1) rest (book_place t book a.0 a.1 h) j

  pub book_batch : (t : FlatTable) (book : ℕ → Option WordId) (places : List (Option ℕ × WordId)) → IsBookOf t book → IsBookOf (after_batch p t (leaves p word_of places)) (book_after book places)
  book_batch t book [] h = h
  book_batch t book (a ∷ rest) h = book_batch (after_place p t a.0 (leaf_of_word p word_of a.1)) (after_label book a.0 a.1) rest (book_place t book a.0 a.1 h)

  rows_final : (t : FlatTable) (us : List ℕ) → SameRows t (after_final p t us)
  rows_final t [] k = refl
  rows_final t (u ∷ us) k = rows_final (cond (t.lifted u) t (lift t u)) us k ∙ cond_both (t.lifted u) t (lift t u) (SameRows t) (λ e k. refl) (λ e k. kept-leave u (t.rows k)) k

  rows_fills : (t : FlatTable) (us : List ℕ) → SameRows t (fills p t us)
  rows_fills t [] k = refl
  rows_fills t (u ∷ us) k = rows_fills (fill p t u) us k ∙ kept-placed u (position_or_len (λ c. c == k) (chosen p t u)) (is_one_of (chosen p t u) k) (t.rows k)

  book_put : (b : Bool) (v : Option WordId) (r : Option Row) (o : Option WordId) → kept_leaf r ≡ low_bits o → kept_leaf (cond b (written_row (leaf_of_put p word_of v)) r) ≡ low_bits (cond b v o)
  book_put true None r o e = refl
  book_put true (Some w) r o e = refl
  book_put false v r o e = e

  book_writes : (t : FlatTable) (book : ℕ → Option WordId) (ws : List (ℕ × Option WordId)) → IsBookOf t book → IsBookOf (after_writes t (map (leaf_write p word_of) ws)) (book_written p word_of book ws)
  book_writes t book [] h = h
  book_writes t book (w ∷ ws) h = book_writes (write t w.0 (leaf_of_put p word_of w.1)) (λ k. cond (k == w.0) w.1 (book k)) ws (λ k. book_put (k == w.0) w.1 (t.rows k) (book k) (h k))

  pub book_end : (t : FlatTable) (book : ℕ → Option WordId) (ws : List (ℕ × Option WordId)) → IsBookOf t book → IsBookOf (after p (after p (after p t FinalLifts) (Writes (map (leaf_write p word_of) ws))) Refill) (book_written p word_of book ws)
  book_end t book ws h k =
      let tf : FlatTable = after p t FinalLifts in
      let t3 : FlatTable = after_writes tf (map (leaf_write p word_of) ws) in
      rows_fills t3 (refill_order p t3) k ∙ book_writes tf book ws (λ k. rows_final t (eviction_path p t.counter) k ∙ h k) k
