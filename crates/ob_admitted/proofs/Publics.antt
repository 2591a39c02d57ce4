-- A life's public state goes by its fills.
use Rattle.std.specs.Prelude.{◌≡◌, ℕ, ◌+◌, ◌-◌, ◌<◌, ◌≤◌, ◌==◌, ◌⊎◌, nat_le, Bool, false, cond, ◌||◌, List, [], ◌∷◌, ◌++◌, map, length, Option}
use Rattle.std.specs.List.{count_by, flat_map, range_with_len}
use Rattle.std.proofs.Common.{zero, suc, arith, refl, sym, ap, ◌∙◌, subst, inl, inr, add-one, length-append}
use Rattle.ob_base.specs.Repeats.{Has}
use Rattle.ob_base.proofs.Repeats.{has_left, has_right, has_push}
use Rattle.ob_base.specs.Layout.{EpochTwin}
use Rattle.ob_base.specs.Tree.{below, passes, width}
use Rattle.ob_base.specs.declared.params.Params.{Params}
use Rattle.ob_schedule.specs.Paths.{is_one_of, eviction_path}
use Rattle.ob_schedule.specs.Schedule.{Public, after_end, counts_now, gate_cell, is_lifted_by_end}
use Rattle.ob_ring.specs.FlatTable.{FlatTable, after_batch, after_label, reads}
use Rattle.ob_ring.specs.Sound.{IsCounted}
use Rattle.ob_ring.proofs.Batches.{FinalLaw, final_law}
use Rattle.ob_ring.proofs.TableLaws.{none_counted}
use Rattle.ob_recover.specs.Life.{WordId, LabelFill, LifeBatch, LifeState, LifeAct, Open, Append, ShowBatch, ShowLifts, End, IsActAllowed, IsLife, batch_places, book_after}
use Rattle.ob_recover.specs.Life.{formatted_life, is_table_lifted, labels_of, leaf_of_word, leaves, life_step, log_labels, next_word, phase_labels, planned_labels, reached, table_after, table_now, with_words}
use Rattle.ob_recover.specs.LifePublic.{leaves_in, public_in}
use Rattle.ob_recover.proofs.Ending.{batch_counter}
use Rattle.ob_recover.proofs.LifeLabels.{planned_lasts}
use Rattle.ob_fresh.specs.PublicLives.{AreEndsShown}
use Rattle.ob_fresh.proofs.Leaves.{flat_behind, flat_more, log_law, none_behind}
use Rattle.ob_fresh.proofs.Publics.{IsOpen, open_formatted, public_ended, stays_open}
use Rattle.ob_histories.specs.Fills.{AllFills, leaves_of_batches, public_at, public_in_epoch, version_filled}
use Rattle.ob_histories.proofs.Finding.{epoch_at}
use Rattle.ob_admitted.specs.Publics.{AreRecordsWhole, LivesGoByFills}

pub words_many : (w : WordId) (asks : List (Option ℕ)) → length (with_words w asks) ≡ length asks
words_many w [] = refl
words_many w (a ∷ rest) = ap suc (words_many (next_word w) rest)

module _ (p : Params) (word_of : WordId → ℕ) (f : AllFills) where
  abbrev leaf : LabelFill → ℕ
  leaf l = leaf_of_word p word_of l.word

  abbrev IsFilled : LabelFill → Type 0
  IsFilled l = f.leaf l.epoch l.batch l.place ≡ leaf l

  -- ---- the leaves of a batch

  pub labels_filled : (e b i : ℕ) (book : ℕ → Option WordId) (places : List (Option ℕ × WordId)) → ((l : LabelFill) → Has (labels_of e b i book places) l → IsFilled l) → map leaf (labels_of e b i book places) ≡ map (f.leaf e b) (range_with_len i (length places))
  labels_filled e b i book [] filled = refl
  labels_filled e b i book (a ∷ rest) filled = λ j. sym (filled _ (inl refl)) j ∷ labels_filled e b (i + 1) (after_label book a.0 a.1) rest (λ l h. filled l (inr h)) j

  abbrev pub AreWhole : List LifeBatch → Type 0
  AreWhole log = (r : LifeBatch) → Has log r → length r.asks ≡ p.places

  phase_filled : (e b : ℕ) (book : ℕ → Option WordId) (log : List LifeBatch) (n : ℕ) → n < length log → AreWhole log → ((l : LabelFill) → Has (log_labels p word_of e b book log) l → IsFilled l)
      → map leaf (phase_labels p word_of e b book log n) ≡ map (f.leaf e (b + n)) (below p.places)
  phase_filled e b book [] n few whole filled = absurd (omega (arith, few))
  phase_filled e b book (r ∷ rs) zero few whole filled =
      let same : b ≡ b + 0 = omega arith in
      let many : length (batch_places r) ≡ p.places = words_many r.first r.asks ∙ whole r (inl refl) in
      labels_filled e b 0 book (batch_places r) (λ l h. filled l (has_left (labels_of e b 0 book (batch_places r)) (log_labels p word_of e (b + 1) (book_after book (batch_places r)) rs) l h))
      ∙ (λ j. map (f.leaf e (same j)) (range_with_len 0 (many j)))
  phase_filled e b book (r ∷ rs) (suc n) few whole filled =
      let same : (b + 1) + n ≡ b + suc n = omega arith in
      phase_filled e (b + 1) (book_after book (batch_places r)) rs n (omega (arith, few)) (λ q h. whole q (inr h))
      (λ l h. filled l (has_right (labels_of e b 0 book (batch_places r)) (log_labels p word_of e (b + 1) (book_after book (batch_places r)) rs) l h))
      ∙ ap (λ (c : ℕ). map (f.leaf e c) (below p.places)) same

  abbrev pub ArePlanned : LifeState → Type 0
  ArePlanned s = (l : LabelFill) → Has (planned_labels p word_of s) l → IsFilled l

  batch_filled : (s : LifeState) (b : ℕ) → b < length s.log → AreWhole s.log → ArePlanned s → leaves_in p word_of s b ≡ map (f.leaf (suc s.epoch) b) (below p.places)
  batch_filled s b few whole planned =
      let epoch : s.epoch + 1 ≡ suc s.epoch = add-one s.epoch in
      let same : 0 + b ≡ b = omega arith in
      phase_filled (s.epoch + 1) 0 s.content.book s.log b few whole (λ l h. planned l (has_right s.past_labels (log_labels p word_of (s.epoch + 1) 0 s.content.book s.log) l h))
      ∙ (λ j. map (f.leaf (epoch j) (same j)) (below p.places))

  pub batches_filled : (s : LifeState) (b : ℕ) → b ≤ length s.log → AreWhole s.log → ArePlanned s → leaves_of_batches p f (suc s.epoch) b ≡ flat_map (leaves_in p word_of s) (below b)
  batches_filled s zero few whole planned = refl
  batches_filled s (suc b) few whole planned =
      (λ j. batches_filled s b (omega (arith, few)) whole planned j ++ sym (batch_filled s b (omega (arith, few)) whole planned) j)
      ∙ sym (flat_more (leaves_in p word_of s) b) ∙ ap (λ (n : ℕ). flat_map (leaves_in p word_of s) (below n)) (add-one b)

  -- ---- along a life

  pub record GoesBy (s : LifeState) : Type 0 where
    pub homes : (u : ℕ) → (public_at p f s.epoch).homes u ≡ s.content.home u
    pub counts : (u : ℕ) → (public_at p f s.epoch).counts u ≡ reads p s.content.table u
    pub counter : (public_at p f s.epoch).counter ≡ s.content.table.counter
    pub versions : (u : ℕ) → version_filled p f s.epoch u ≡ s.content.version u
    pub whole : AreWhole s.log
    pub room : length s.log ≤ p.batches

  pub counter_log : (t : FlatTable) (log : List LifeBatch) → (table_after p word_of t log).counter ≡ t.counter
  counter_log t [] = refl
  counter_log t (r ∷ log) = counter_log (after_batch p t (leaves p word_of (batch_places r))) log ∙ batch_counter p t (leaves p word_of (batch_places r))

  module _ (some : 0 < p.dummies) (s : LifeState) (inv : IsOpen p word_of s) (is : GoesBy s) (planned : ArePlanned s) (ws : List (ℕ × Option WordId)) (drawn : ℕ) (slot : ℕ → ℕ → ℕ) (ok : IsActAllowed p word_of s (End ws drawn slot))
      (all : p.batches ≤ s.begun) where
    abbrev then : LifeState
    then = life_step p word_of s (End ws drawn slot)

    abbrev gates : ℕ → Bool
    gates = (public_at p f s.epoch).gates

    abbrev q : Public
    q = public_in_epoch p f s.epoch p.batches

    full : length s.log ≡ p.batches
    full = ok.1

    all_leaves : leaves_of_batches p f (suc s.epoch) p.batches ≡ flat_map (leaves_in p word_of s) (below (length s.log))
    all_leaves = batches_filled s p.batches (omega (arith, full)) is.whole planned ∙ ap (λ (n : ℕ). flat_map (leaves_in p word_of s) (below n)) (sym full)

    shown_leaves : flat_map (leaves_in p word_of s) (below s.begun) ≡ flat_map (leaves_in p word_of s) (below (length s.log))
    shown_leaves =
        let so : s.begun ≡ length s.log + (s.begun - length s.log) = omega (arith, full, all) in
        ap (λ (n : ℕ). flat_map (leaves_in p word_of s) (below n)) so
        ∙ flat_behind (leaves_in p word_of s) (length s.log) (s.begun - length s.log) (λ n h. ap (map leaf) (none_behind p word_of (s.epoch + 1) 0 s.content.book s.log n h))

    same_public : public_in p word_of s gates ≡ q
    same_public = λ j. record {
      epoch = sym (epoch_at p f s.epoch) j;
      homes = λ u. sym (is.homes u) j;
      counts = λ u. sym (is.counts u) j;
      counter = sym is.counter j;
      gates = gates;
      leaves = (shown_leaves ∙ sym all_leaves) j;
    }

    ended : public_in p word_of then (λ cell. (cell == gate_cell p EpochTwin (s.epoch + 1)) || gates cell) ≡ after_end p q
    ended = public_ended p word_of some s inv ws drawn slot ok gates all ∙ ap (after_end p) same_public

    -- which buckets the end lifts
    counted : IsCounted p (table_now p word_of s) (λ u. reads p s.content.table u + count_by (passes p u) (flat_map (leaves_in p word_of s) (below (length s.log))))
    counted = (log_law p word_of (s.epoch + 1) 0 s.content.table s.content.book (λ u. reads p s.content.table u) s.log inv.sound inv.counted inv.booked).counted

    fin : FinalLaw p (table_now p word_of s) (λ u. reads p s.content.table u + count_by (passes p u) (flat_map (leaves_in p word_of s) (below (length s.log)))) (λ u. false) (eviction_path p (table_now p word_of s).counter)
    fin = final_law p (table_now p word_of s) (λ u. reads p s.content.table u + count_by (passes p u) (flat_map (leaves_in p word_of s) (below (length s.log)))) (λ u. false) (eviction_path p (table_now p word_of s).counter) inv.slots.sound
        (record { lifted_is = counted.lifted_is; reads_is = counted.reads_is })

    counts_same : (u : ℕ) → reads p s.content.table u + count_by (passes p u) (flat_map (leaves_in p word_of s) (below (length s.log))) ≡ counts_now p q u
    counts_same u = λ j. sym (is.counts u) j + count_by (passes p u) (sym all_leaves j)

    lifted_same : (u : ℕ) → is_table_lifted p word_of s u ≡ is_lifted_by_end p q u
    lifted_same u = fin.lifted_is u ∙ (λ j. is_one_of (eviction_path p ((counter_log s.content.table s.log ∙ sym is.counter) j)) u || nat_le p.dummies (counts_same u j))

    end_goes : GoesBy then
    end_goes = record {
      homes = λ u. epoch_then (λ (n : ℕ). (public_at p f n).homes u ≡ then.content.home u) (ap (λ (r : Public). r.homes u) (sym ended));
      counts = λ u. epoch_then (λ (n : ℕ). (public_at p f n).counts u ≡ reads p then.content.table u) (ap (λ (r : Public). r.counts u) (sym ended));
      counter = epoch_then (λ (n : ℕ). (public_at p f n).counter ≡ then.content.table.counter) (ap (λ (r : Public). r.counter) (sym ended));
      versions = λ u. epoch_then (λ (n : ℕ). version_filled p f n u ≡ then.content.version u) (λ j. cond (sym (lifted_same u) j) (sym (add-one s.epoch) j) (is.versions u j));
      whole = λ r h. absurd h;
      room = omega arith;
    }
      where
        epoch_then : (P : ℕ → Type 0) → P (suc s.epoch) → P (s.epoch + 1)
        epoch_then P is = subst P (sym (add-one s.epoch)) is

  pub goes_along : (some : 0 < p.dummies) (s : LifeState) (acts : List LifeAct) → IsLife p word_of s acts → AreEndsShown p word_of s acts → AreRecordsWhole p acts → IsOpen p word_of s → GoesBy s → ArePlanned (reached p word_of s acts) → GoesBy (reached p word_of s acts)
  goes_along some s [] life ends whole inv is planned = is
  goes_along some s (Open g ∷ rest) life ends whole inv is planned =
      goes_along some (life_step p word_of s (Open g)) rest life.1 ends whole (stays_open p word_of some s (Open g) life.0 inv)
      (record { homes = is.homes; counts = is.counts; counter = is.counter; versions = is.versions; whole = is.whole; room = is.room }) planned
  goes_along some s (Append r ∷ rest) life ends whole inv is planned =
      goes_along some (life_step p word_of s (Append r)) rest life.1 ends whole.1 (stays_open p word_of some s (Append r) life.0 inv)
      (record { homes = is.homes; counts = is.counts; counter = is.counter; versions = is.versions; whole = λ b h. appended b (has_push s.log r b h); room = longer (length-append s.log (r ∷ [])) life.0.0 }) planned
    where
      longer : length (s.log ++ r ∷ []) ≡ length s.log + 1 → length s.log < p.batches → length (s.log ++ r ∷ []) ≤ p.batches
      longer more low = omega (arith, more, low)

      appended : (b : LifeBatch) → (Has s.log b ⊎ (r ≡ b)) → length b.asks ≡ p.places
      appended b (inl before) = is.whole b before
      appended b (inr same) = subst (λ (c : LifeBatch). length c.asks ≡ p.places) same whole.0
  goes_along some s (ShowBatch ∷ rest) life ends whole inv is planned =
      goes_along some (life_step p word_of s ShowBatch) rest life.1 ends whole (stays_open p word_of some s ShowBatch life.0 inv)
      (record { homes = is.homes; counts = is.counts; counter = is.counter; versions = is.versions; whole = is.whole; room = is.room }) planned
  goes_along some s (ShowLifts ∷ rest) life ends whole inv is planned =
      goes_along some (life_step p word_of s ShowLifts) rest life.1 ends whole (stays_open p word_of some s ShowLifts life.0 inv)
      (record { homes = is.homes; counts = is.counts; counter = is.counter; versions = is.versions; whole = is.whole; room = is.room }) planned
  goes_along some s (End ws drawn slot ∷ rest) life ends whole inv is planned =
      goes_along some (life_step p word_of s (End ws drawn slot)) rest life.1 ends.1 whole (stays_open p word_of some s (End ws drawn slot) life.0 inv)
      (end_goes some s inv is (λ l h. planned l (planned_lasts p word_of s (End ws drawn slot ∷ rest) l h)) ws drawn slot life.0 ends.0) planned

  pub formatted_goes : (slot : ℕ → ℕ → ℕ) → GoesBy (formatted_life slot)
  formatted_goes slot = record { homes = λ u. refl; counts = λ u. sym (none_counted (width p)); counter = refl; versions = λ u. refl; whole = λ r h. absurd h; room = omega arith }

pub lives_go : LivesGoByFills
lives_go p word_of slot acts f ranked life ends whole filled =
    let some : 0 < p.dummies = (let one = p.in_range.some_dummies in omega (arith, one)) in
    let is = goes_along p word_of f some (formatted_life slot) acts life ends whole (open_formatted p word_of some slot ranked) (formatted_goes p word_of f slot) filled.leaves in
    record {
      homes = is.homes;
      counts = is.counts;
      counter = is.counter;
      versions = is.versions;
      batches = λ b few. batches_filled p word_of f (reached p word_of (formatted_life slot) acts) b few is.whole filled.leaves;
    }
