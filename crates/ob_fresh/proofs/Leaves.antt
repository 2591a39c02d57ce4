-- The leaves that an attempt has shown, and how often its log reads each bucket.
use Rattle.std.specs.Prelude.{◌≡◌, ℕ, ◌+◌, ◌<◌, ◌≤◌, cond, List, [], ◌∷◌, ◌++◌, map, length, Option}
use Rattle.std.specs.List.{range_with_len, count_by, flat_map}
use Rattle.std.proofs.Common.{zero, suc, arith, refl, sym, ap, subst, ◌∙◌, add-one}
use Rattle.std.proofs.lemmas.List.{append_assoc, append-nil}
use Rattle.std.proofs.lemmas.List.Sums.{sum_by-append}
use mathlib.Core.Path.{fun_ext}
use Rattle.ob_base.specs.declared.params.Params.{Params}
use Rattle.ob_base.specs.Tree.{below, passes}
use Rattle.ob_ring.specs.FlatTable.{FlatTable, after_batch, leaves_shown}
use Rattle.ob_ring.specs.Sound.{IsCounted, IsSound}
use Rattle.ob_ring.proofs.Batches.{BatchLaw, batch_law, shift_range}
use Rattle.ob_recover.specs.Life.{WordId, LabelFill, LifeBatch, batch_places, book_after, book_after_log, labels_of, leaf_of_word, leaves, phase_labels, table_after}
use Rattle.ob_recover.proofs.BookLaws.{IsBookOf, book_batch, label_leaves}

-- ---- lists joined over a range

module _ (f : ℕ → List ℕ) where
  flat_next : (a n : ℕ) → flat_map f (range_with_len a (suc n)) ≡ flat_map f (range_with_len a n) ++ f (a + n)
  flat_next a zero = append-nil (f a) ∙ (let at : a ≡ a + 0 = omega arith in ap f at)
  flat_next a (suc n) =
      ap (λ (xs : List ℕ). f a ++ xs) (flat_next (a + 1) n ∙ (let at : (a + 1) + n ≡ a + suc n = omega arith in ap (λ (m : ℕ). flat_map f (range_with_len (a + 1) n) ++ f m) at))
      ∙ sym (append_assoc (f a) (flat_map f (range_with_len (a + 1) n)) (f (a + suc n)))

  pub flat_more : (n : ℕ) → flat_map f (below (n + 1)) ≡ flat_map f (below n) ++ f n
  flat_more n = ap (λ (m : ℕ). flat_map f (below m)) (add-one n) ∙ flat_next 0 n ∙ (let at : 0 + n ≡ n = omega arith in ap (λ (m : ℕ). flat_map f (below n) ++ f m) at)

  -- where nothing stands behind m
  pub flat_behind : (m d : ℕ) → ((i : ℕ) → m ≤ i → f i ≡ []) → flat_map f (below (m + d)) ≡ flat_map f (below m)
  flat_behind m zero none = (let at : m + 0 ≡ m = omega arith in ap (λ (n : ℕ). flat_map f (below n)) at)
  flat_behind m (suc d) none =
      (let at : m + suc d ≡ (m + d) + 1 = omega arith in ap (λ (n : ℕ). flat_map f (below n)) at) ∙ flat_more (m + d)
      ∙ ap (λ (xs : List ℕ). flat_map f (below (m + d)) ++ xs) (none (m + d) (omega arith)) ∙ append-nil (flat_map f (below (m + d))) ∙ flat_behind m d none

pub flat_agree : (f g : ℕ → List ℕ) (a n : ℕ) → ((i : ℕ) → a ≤ i → i < a + n → f i ≡ g i) → flat_map f (range_with_len a n) ≡ flat_map g (range_with_len a n)
flat_agree f g a zero same = refl
flat_agree f g a (suc n) same = λ j. same a (omega arith) (omega arith) j ++ flat_agree f g (a + 1) n (λ i low high. same i (omega arith) (omega arith)) j

-- ---- the leaves of a log

module _ (p : Params) (word_of : WordId → ℕ) where
  abbrev pub leaf : LabelFill → ℕ
  leaf l = leaf_of_word p word_of l.word

  abbrev pub log_leaves : ℕ → ℕ → (ℕ → Option WordId) → List LifeBatch → ℕ → List ℕ
  log_leaves e b book log n = map leaf (phase_labels p word_of e b book log n)

  pub none_behind : (e b : ℕ) (book : ℕ → Option WordId) (log : List LifeBatch) (n : ℕ) → length log ≤ n → phase_labels p word_of e b book log n ≡ []
  none_behind e b book [] n h = refl
  none_behind e b book (r ∷ log) zero h = absurd (omega arith)
  none_behind e b book (r ∷ log) (suc n) h = none_behind e (b + 1) (book_after book (batch_places r)) log n (omega arith)

  leaves_split : (e b : ℕ) (book : ℕ → Option WordId) (r : LifeBatch) (log : List LifeBatch) → flat_map (log_leaves e b book (r ∷ log)) (below (suc (length log)))
      ≡ map leaf (labels_of e b 0 book (batch_places r)) ++ flat_map (log_leaves e (b + 1) (book_after book (batch_places r)) log) (below (length log))
  leaves_split e b book r log =
      let next : (λ (i : ℕ). log_leaves e b book (r ∷ log) (i + 1)) ≡ log_leaves e (b + 1) (book_after book (batch_places r)) log = fun_ext (λ i. ap (log_leaves e b book (r ∷ log)) (add-one i)) in
      ap (λ (xs : List ℕ). map leaf (labels_of e b 0 book (batch_places r)) ++ xs) (shift_range (log_leaves e b book (r ∷ log)) 0 (length log) ∙ ap (λ (f : ℕ → List ℕ). flat_map f (below (length log))) next)

  -- what stands behind a log, of a table and a book that belong together
  pub record LogLaw (e b : ℕ) (t : FlatTable) (book : ℕ → Option WordId) (count : ℕ → ℕ) (log : List LifeBatch) : Type 0 where
    pub sound : IsSound p (table_after p word_of t log)
    pub counted : IsCounted p (table_after p word_of t log) (λ u. count u + count_by (passes p u) (flat_map (log_leaves e b book log) (below (length log))))
    pub booked : IsBookOf p word_of (table_after p word_of t log) (book_after_log p word_of book log)

  pub log_law : (e b : ℕ) (t : FlatTable) (book : ℕ → Option WordId) (count : ℕ → ℕ) (log : List LifeBatch) → IsSound p t → IsCounted p t count → IsBookOf p word_of t book → LogLaw e b t book count log
  log_law e b t book count [] sound counted booked = record {
    sound = sound;
    counted = subst (λ (c : ℕ → ℕ). IsCounted p t c) (fun_ext (λ u. (let same : count u ≡ count u + 0 = omega arith in same))) counted;
    booked = booked;
  }
  log_law e b t book count (r ∷ log) sound counted booked =
      let asked : List (Option ℕ × ℕ) = leaves p word_of (batch_places r) in
      let law : BatchLaw p t asked count = batch_law p t asked count sound counted in
      let ls : List ℕ = map leaf (labels_of e b 0 book (batch_places r)) in
      let shown : leaves_shown p t asked ≡ ls = label_leaves p word_of t book e b 0 (batch_places r) booked in
      let rest : LogLaw e (b + 1) (after_batch p t asked) (book_after book (batch_places r)) (λ u. count u + count_by (passes p u) (leaves_shown p t asked)) log =
      log_law e (b + 1) (after_batch p t asked) (book_after book (batch_places r)) (λ u. count u + count_by (passes p u) (leaves_shown p t asked)) log law.sound law.counted (book_batch p word_of t book (batch_places r) booked) in
      let more : List ℕ = flat_map (log_leaves e (b + 1) (book_after book (batch_places r)) log) (below (length log)) in
      record {
        sound = rest.sound;
        counted = subst (λ (c : ℕ → ℕ). IsCounted p (table_after p word_of t (r ∷ log)) c)
            (fun_ext (λ u. ap (λ (xs : List ℕ). (count u + count_by (passes p u) xs) + count_by (passes p u) more) shown
            ∙ (let joined : count_by (passes p u) (ls ++ more) ≡ count_by (passes p u) ls + count_by (passes p u) more = sum_by-append (λ x. cond (passes p u x) 1 0) ls more in
            let same : (count u + count_by (passes p u) ls) + count_by (passes p u) more ≡ count u + count_by (passes p u) (ls ++ more) = omega arith in same)
            ∙ ap (λ (xs : List ℕ). count u + count_by (passes p u) xs) (sym (leaves_split e b book r log))))
            rest.counted;
        booked = rest.booked;
      }
