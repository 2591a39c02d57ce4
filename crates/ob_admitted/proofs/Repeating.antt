-- An opening's repeats show a history's notes.
use Rattle.std.specs.Prelude.{◌≡◌, ◌<◌, ℕ, ◌+◌, Bool, List, [], ◌∷◌, ◌++◌, map, length, Option}
use Rattle.std.specs.List.{flat_map, range_with_len}
use Rattle.std.proofs.Common.{suc, arith, refl, sym, ap, ◌∙◌, subst, inl, inr, add-one, append_assoc, length-append}
use Rattle.std.proofs.lemmas.List.{map-append}
use Rattle.std.proofs.lemmas.List.FromFn.{length-map-range_with_len}
use Rattle.ob_base.specs.Repeats.{Has}
use Rattle.ob_base.proofs.Repeats.{has_left, has_right}
use Rattle.ob_base.specs.declared.params.Params.{Params}
use Rattle.ob_schedule.specs.Holes.{Hole, batch_holes}
use Rattle.ob_schedule.specs.Schedule.{Fills, Public, batch_leaves, counts_now, phase_notes, repeats}
use Rattle.ob_ring.specs.FlatTable.{FlatTable, Shown, after_batch, batch_shown, leaves_shown, reads}
use Rattle.ob_ring.specs.Sound.{IsCounted, IsSound, hole_of}
use Rattle.ob_ring.proofs.Batches.{BatchLaw, batch_law}
use Rattle.ob_recover.specs.Calls.{repeated}
use Rattle.ob_recover.specs.Life.{WordId, LabelFill, SlotFill, LifeBatch, LifeState, ShowBatch, batch_places, book_after, book_after_log, formatted_life, labels_of, leaf_of_word}
use Rattle.ob_recover.specs.Life.{leaves, life_labels, life_slots, life_step, log_labels, log_slots, phase_labels, phase_slots, reached, slot_fill, slots_of, table_after}
use Rattle.ob_recover.proofs.BookLaws.{IsBookOf, book_batch, label_leaves}
use Rattle.ob_recover.proofs.LifeLabels.{book_more}
use Rattle.ob_recover.proofs.LifeSlots.{table_more}
use Rattle.ob_recover.proofs.NotesLaws.{counts_follow}
use Rattle.ob_fresh.proofs.Publics.{IsOpen, open_formatted, open_life}
use Rattle.ob_histories.specs.Fills.{AllFills, fills_at, leaves_of_batches, public_in_epoch}
use Rattle.ob_histories.proofs.Finding.{epoch_at}
use Rattle.ob_admitted.specs.Publics.{IsPublicOfFills}
use Rattle.ob_admitted.specs.Repeats.{OpeningsGoByFills, phase_of_fills}
use Rattle.ob_admitted.proofs.Notes.{notes_same, of_shown, has_fill, last_labels, last_slots}
use Rattle.ob_admitted.proofs.Publics.{GoesBy, goes_along, formatted_goes, labels_filled, lives_go, words_many}

-- two joined lists whose first parts are equally long
first_same : (xs ys us vs : List ℕ) → length xs ≡ length ys → xs ++ us ≡ ys ++ vs → (xs ≡ ys) × (us ≡ vs)
first_same [] [] us vs many same = (refl, same)
first_same [] (y ∷ ys) us vs many same = absurd (omega (arith, many))
first_same (x ∷ xs) [] us vs many same = absurd (omega (arith, many))
first_same (x ∷ xs) (y ∷ ys) us vs many same =
    let rest = first_same xs ys us vs (omega (arith, many)) (tail_same x y (xs ++ us) (ys ++ vs) same) in ((λ i. head_same x y (xs ++ us) (ys ++ vs) same i ∷ rest.0 i), rest.1)
  where
    head_same : (x y : ℕ) (us vs : List ℕ) → ◌≡◌ {A = List ℕ} (x ∷ us) (y ∷ vs) → x ≡ y
    head_same x y us vs e = cc

    tail_same : (x y : ℕ) (us vs : List ℕ) → ◌≡◌ {A = List ℕ} (x ∷ us) (y ∷ vs) → us ≡ vs
    tail_same x y us vs e = cc

-- ---- what repeated acts show

module _ (p : Params) (word_of : WordId → ℕ) where
  further : (xs : List LifeBatch) (r : LifeBatch) (n : ℕ) → n ≡ length xs → n + 1 ≡ length (xs ++ r ∷ [])
  further xs r n is = omega (arith, is, length-append xs (r ∷ []))

  labels_repeated : (t : LifeState) (xs ys : List LifeBatch) → t.log ≡ xs ++ ys → t.begun ≡ length xs
      → life_labels p word_of t (repeated (length ys)) ≡ log_labels p word_of (t.epoch + 1) (0 + length xs) (book_after_log p word_of t.content.book xs) ys
  labels_repeated t xs [] log begun = refl
  labels_repeated t xs (r ∷ ys) log begun =
      let next : 0 + length (xs ++ r ∷ []) ≡ (0 + length xs) + 1 = omega (arith, length-append xs (r ∷ [])) in
      let first : phase_labels p word_of (t.epoch + 1) 0 t.content.book t.log t.begun ≡ labels_of (t.epoch + 1) (0 + length xs) 0 (book_after_log p word_of t.content.book xs) (batch_places r) =
      (λ i. phase_labels p word_of (t.epoch + 1) 0 t.content.book (log i) (begun i)) ∙ last_labels p word_of (t.epoch + 1) 0 t.content.book xs r ys in
      let rest = labels_repeated (life_step p word_of t ShowBatch) (xs ++ r ∷ []) ys (log ∙ sym (append_assoc xs (r ∷ []) ys)) (further xs r t.begun begun)
      ∙ (λ i. log_labels p word_of (t.epoch + 1) (next i) (book_more p word_of t.content.book xs r i) ys) in
      λ i. first i ++ rest i

  slots_repeated : (t : LifeState) (xs ys : List LifeBatch) → t.log ≡ xs ++ ys → t.begun ≡ length xs
      → life_slots p word_of t (repeated (length ys)) ≡ log_slots p word_of (t.epoch + 1) t.content (table_after p word_of t.content.table xs) ys
  slots_repeated t xs [] log begun = refl
  slots_repeated t xs (r ∷ ys) log begun =
      let first : phase_slots p word_of (t.epoch + 1) t.content t.content.table t.log t.begun ≡ slots_of (t.epoch + 1) t.content (batch_shown p (table_after p word_of t.content.table xs) (leaves p word_of (batch_places r))) =
      (λ i. phase_slots p word_of (t.epoch + 1) t.content t.content.table (log i) (begun i)) ∙ last_slots p word_of (t.epoch + 1) t.content t.content.table xs r ys in
      let rest = slots_repeated (life_step p word_of t ShowBatch) (xs ++ r ∷ []) ys (log ∙ sym (append_assoc xs (r ∷ []) ys)) (further xs r t.begun begun)
      ∙ (λ i. log_slots p word_of (t.epoch + 1) t.content (table_more p word_of t.content.table xs r i) ys) in
      λ i. first i ++ rest i

module _ (p : Params) (word_of : WordId → ℕ) (f : AllFills) (s : LifeState) (is : IsPublicOfFills p word_of f s) (found : ℕ → Bool) (c : Fills) where
  abbrev d : Fills
  d = fills_at p f s.epoch

  abbrev leaf : LabelFill → ℕ
  leaf l = leaf_of_word p word_of l.word

  abbrev public_behind : List ℕ → Public
  public_behind ls = record { epoch = s.epoch; homes = s.content.home; counts = λ u. reads p s.content.table u; counter = s.content.table.counter; gates = found; leaves = ls }

  abbrev BothFill : SlotFill → Type 0
  BothFill x = (x.slot ≡ c.slot (record { bucket = x.bucket; number = x.number })) × (f.slot x.bucket x.version x.number ≡ x.slot)

  record Ahead (b : ℕ) (t : FlatTable) (book : ℕ → Option WordId) (rs : List LifeBatch) (ls : List ℕ) : Type 0 where
    sound : IsSound p t
    counted : IsCounted p t (counts_now p (public_behind ls))
    booked : IsBookOf p word_of t book
    shown : ls ≡ leaves_of_batches p f (suc s.epoch) b
    whole : (r : LifeBatch) → Has rs r → length r.asks ≡ p.places
    labels : map leaf (log_labels p word_of (s.epoch + 1) b book rs) ≡ flat_map (λ n. batch_leaves p c n) (range_with_len b (length rs))
    leaves_are : (l : LabelFill) → Has (log_labels p word_of (s.epoch + 1) b book rs) l → f.leaf l.epoch l.batch l.place ≡ leaf l
    slots : (x : SlotFill) → Has (log_slots p word_of (s.epoch + 1) s.content t rs) x → BothFill x

  module _ (b : ℕ) (t : FlatTable) (book : ℕ → Option WordId) (r : LifeBatch) (rs : List LifeBatch) (ls : List ℕ) (a : Ahead b t book (r ∷ rs) ls) where
    abbrev asked : List (Option ℕ × ℕ)
    asked = leaves p word_of (batch_places r)

    abbrev here : List LabelFill
    here = labels_of (s.epoch + 1) b 0 book (batch_places r)

    abbrev later : List LabelFill
    later = log_labels p word_of (s.epoch + 1) (b + 1) (book_after book (batch_places r)) rs

    many : length (batch_places r) ≡ p.places
    many = words_many r.first r.asks ∙ a.whole r (inl refl)

    by_fills : map leaf here ≡ batch_leaves p d b
    by_fills =
        let epoch : s.epoch + 1 ≡ suc s.epoch = add-one s.epoch in
        labels_filled p word_of f (s.epoch + 1) b 0 book (batch_places r) (λ l h. a.leaves_are l (has_left here later l h)) ∙ (λ j. map (f.leaf (epoch j) b) (range_with_len 0 (many j)))

    both : (map leaf here ≡ batch_leaves p c b) × (map leaf later ≡ flat_map (λ n. batch_leaves p c n) (range_with_len (b + 1) (length rs)))
    both =
        let as_many : length (map leaf here) ≡ length (batch_leaves p c b) = ap (length {A = ℕ}) by_fills ∙ length-map-range_with_len (f.leaf (suc s.epoch) b) 0 p.places ∙ sym (length-map-range_with_len (c.label b) 0 p.places) in
        first_same (map leaf here) (batch_leaves p c b) (map leaf later) (flat_map (λ n. batch_leaves p c n) (range_with_len (b + 1) (length rs))) as_many (sym (map-append leaf here later) ∙ a.labels)

    shown_here : leaves_shown p t asked ≡ map leaf here
    shown_here = label_leaves p word_of t book (s.epoch + 1) b 0 (batch_places r) a.booked

    one : BatchLaw p t asked (counts_now p (public_behind ls))
    one = batch_law p t asked (counts_now p (public_behind ls)) a.sound a.counted

    slot_same : (x : Shown) → Has (batch_shown p t asked) x → c.slot (hole_of x) ≡ d.slot (hole_of x)
    slot_same x has =
        let fills = a.slots (slot_fill (s.epoch + 1) s.content x) (has_left (slots_of (s.epoch + 1) s.content (batch_shown p t asked)) (log_slots p word_of (s.epoch + 1) s.content (after_batch p t asked) rs) (slot_fill (s.epoch + 1) s.content x)
        (has_fill (s.epoch + 1) s.content (batch_shown p t asked) x has)) in
        sym fills.0 ∙ sym fills.1 ∙ ap (λ (v : ℕ). f.slot x.bucket v x.number) (sym (is.versions x.bucket))

    hole_same : (h : Hole) → Has (batch_holes p (counts_now p (public_behind ls)) (batch_leaves p c b)) h → c.slot h ≡ d.slot h
    hole_same h has = of_shown (λ (g : Hole). c.slot g ≡ d.slot g) (batch_shown p t asked) slot_same h
        (subst (λ (hs : List Hole). Has hs h) (sym (one.holes ∙ ap (batch_holes p (counts_now p (public_behind ls))) (shown_here ∙ both.0))) has)

    same_public : public_behind ls ≡ record (public_in_epoch p f s.epoch b) { gates = found }
    same_public = λ j. record { epoch = sym (epoch_at p f s.epoch) j; homes = λ u. sym (is.homes u) j; counts = λ u. sym (is.counts u) j; counter = sym is.counter j; gates = found; leaves = a.shown j }

    phase_is : phase_notes p (public_behind ls) c (batch_leaves p c b) ≡ phase_of_fills p f s.epoch b
    phase_is = notes_same p (public_behind ls) c d (batch_leaves p c b) hole_same ∙ ap (phase_notes p (public_behind ls) d) (sym both.0 ∙ by_fills) ∙ ap (λ (q : Public). phase_notes p q d (batch_leaves p d b)) same_public

    ahead : Ahead (b + 1) (after_batch p t asked) (book_after book (batch_places r)) rs (ls ++ batch_leaves p c b)
    ahead = record {
      sound = one.sound;
      counted = subst (λ (xs : List ℕ). IsCounted p (after_batch p t asked) (counts_now p (public_behind (ls ++ xs)))) (shown_here ∙ both.0) (counts_follow p (public_behind ls) t asked a.sound a.counted);
      booked = book_batch p word_of t book (batch_places r) a.booked;
      shown = (λ j. a.shown j ++ (sym both.0 ∙ by_fills) j) ∙ ap (λ (n : ℕ). leaves_of_batches p f (suc s.epoch) n) (sym (add-one b));
      whole = λ x h. a.whole x (inr h);
      labels = both.1;
      leaves_are = λ l h. a.leaves_are l (has_right here later l h);
      slots = λ x h. a.slots x (has_right (slots_of (s.epoch + 1) s.content (batch_shown p t asked)) (log_slots p word_of (s.epoch + 1) s.content (after_batch p t asked) rs) x h);
    }

  repeats_are : (b : ℕ) (t : FlatTable) (book : ℕ → Option WordId) (rs : List LifeBatch) (ls : List ℕ) → Ahead b t book rs ls → repeats p (public_behind ls) c b (length rs) ≡ flat_map (phase_of_fills p f s.epoch) (range_with_len b (length rs))
  repeats_are b t book [] ls a = refl
  repeats_are b t book (r ∷ rs) ls a =
      λ i. phase_is b t book r rs ls a i ++ repeats_are (b + 1) (after_batch p t (leaves p word_of (batch_places r))) (book_after book (batch_places r)) rs (ls ++ batch_leaves p c b) (ahead b t book r rs ls a) i

pub openings_go : OpeningsGoByFills
openings_go p word_of slot acts f ranked life ends whole filled generation c gates found by_call by_fills =
    let some : 0 < p.dummies = (let one = p.in_range.some_dummies in omega (arith, one)) in
    let s : LifeState = reached p word_of (formatted_life slot) acts in
    let t : LifeState = record s { generation = generation; drawn = 0; begun = 0 } in
    let is = lives_go p word_of slot acts f ranked life ends whole filled in
    let inv : IsOpen p word_of s = open_life p word_of some (formatted_life slot) acts life (open_formatted p word_of some slot ranked) in
    let goes : GoesBy p word_of f s = goes_along p word_of f some (formatted_life slot) acts life ends whole (open_formatted p word_of some slot ranked) (formatted_goes p word_of f slot) filled.leaves in
    let labels : life_labels p word_of t (repeated (length s.log)) ≡ log_labels p word_of (s.epoch + 1) 0 s.content.book s.log = labels_repeated p word_of t [] s.log refl refl in
    let slots : life_slots p word_of t (repeated (length s.log)) ≡ log_slots p word_of (s.epoch + 1) s.content s.content.table s.log = slots_repeated p word_of t [] s.log refl refl in
    repeats_are p word_of f s is found c 0 s.content.table s.content.book s.log [] (record {
      sound = inv.sound;
      counted = subst (λ (count : ℕ → ℕ). IsCounted p s.content.table count) (λ j u. (let same : reads p s.content.table u ≡ reads p s.content.table u + 0 = omega arith in same) j) inv.counted;
      booked = inv.booked;
      shown = refl;
      whole = goes.whole;
      labels = ap (map (λ (l : LabelFill). leaf_of_word p word_of l.word)) (sym labels) ∙ by_call.labels;
      leaves_are = λ l h. filled.leaves l (has_right s.past_labels (log_labels p word_of (s.epoch + 1) 0 s.content.book s.log) l h);
      slots = λ x h. (let there : Has (life_slots p word_of t (repeated (length s.log))) x = subst (λ (fs : List SlotFill). Has fs x) (sym slots) h in (by_call.slots x there, by_fills.slots_are x there));
    })
