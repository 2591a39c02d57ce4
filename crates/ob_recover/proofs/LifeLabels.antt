-- The labels of a life are fresh.
use Rattle.std.specs.Prelude.{◌≡◌, ℕ, ◌+◌, ◌<◌, ◌==◌, cond, List, [], ◌∷◌, ◌++◌, length, Option}
use Rattle.std.proofs.Common.{zero, suc, arith, refl, sym, ap, subst, ◌∙◌, inl, inr, length-append}
use Rattle.std.proofs.lemmas.List.{append_assoc, append-nil}
use Rattle.ob_base.specs.declared.params.Params.{Params}
use Rattle.ob_recover.specs.Life.{WordId, LifeBatch, LabelFill, batch_places, labels_of, book_after, LifeState, LifeAct, Open, Append, ShowBatch, ShowLifts, End, AreDrawn, log_labels, phase_labels}
use Rattle.ob_recover.specs.Life.{book_after_log, book_written, book_now, planned_labels, life_step, IsActAllowed, IsLife, life_labels, labels_shown, reached}
use Rattle.ob_base.proofs.Repeats.{has_left, has_right, has_cases}
use Rattle.ob_base.specs.Repeats.{Has}
use Rattle.ob_recover.proofs.LabelLaws.{IsOlder, IsNamedBefore, IsApart, apart_later, label_batch, write_apart, older_yet}

pub newer : (w : WordId) (g n g' : ℕ) → g < g' → IsOlder w g n → IsOlder w g' 0
newer w g n g' h (inl a) = inl (omega arith)
newer w g n g' h (inr a) = inl (let x : w.generation ≡ g = a.0 in omega arith)

next_batch : (l : LabelFill) (e b i : ℕ) → IsNamedBefore l e b i → IsNamedBefore l e (b + 1) 0
next_batch l e b i (inl h) = inl h
next_batch l e b i (inr (x, inl h)) = inr (x, inl (omega arith))
next_batch l e b i (inr (x, inr h)) = inr (x, inl (let y : l.batch ≡ b = h.0 in omega arith))

next_epoch : (l : LabelFill) (e b i : ℕ) → IsNamedBefore l e b i → IsNamedBefore l (e + 1) 0 0
next_epoch l e b i (inl h) = inl (omega arith)
next_epoch l e b i (inr (x, y)) = inl (let z : l.epoch ≡ e = x in omega arith)

module _ (p : Params) (word_of : WordId → ℕ) where
  pub book_more : (book : ℕ → Option WordId) (log : List LifeBatch) (r : LifeBatch) → book_after_log p word_of book (log ++ r ∷ []) ≡ book_after (book_after_log p word_of book log) (batch_places r)
  book_more book [] r = refl
  book_more book (x ∷ log) r = book_more (book_after book (batch_places x)) log r

  pub log_labels_more : (e b : ℕ) (book : ℕ → Option WordId) (log : List LifeBatch) (r : LifeBatch) → log_labels p word_of e b book (log ++ r ∷ []) ≡ log_labels p word_of e b book log ++ labels_of e (b + length log) 0 (book_after_log p word_of book log) (batch_places r)
  log_labels_more e b book [] r =
      append-nil (labels_of e b 0 book (batch_places r)) ∙ (let z : b ≡ b + 0 = omega arith in ap (λ (c : ℕ). labels_of e c 0 book (batch_places r)) z)
  log_labels_more e b book (x ∷ log) r =
      ap (λ (ls : List LabelFill). labels_of e b 0 book (batch_places x) ++ ls)
      (log_labels_more e (b + 1) (book_after book (batch_places x)) log r
      ∙ ap (λ (c : ℕ). log_labels p word_of e (b + 1) (book_after book (batch_places x)) log ++ labels_of e c 0 (book_after_log p word_of book (x ∷ log)) (batch_places r)) (let z : (b + 1) + length log ≡ b + suc (length log) = omega arith in z))
      ∙ sym (append_assoc (labels_of e b 0 book (batch_places x)) (log_labels p word_of e (b + 1) (book_after book (batch_places x)) log) (labels_of e (b + suc (length log)) 0 (book_after_log p word_of book (x ∷ log)) (batch_places r)))

  pub planned_more : (s : LifeState) (r : LifeBatch) → planned_labels p word_of (life_step p word_of s (Append r)) ≡ planned_labels p word_of s ++ labels_of (s.epoch + 1) (0 + length s.log) 0 (book_now p word_of s) (batch_places r)
  planned_more s r =
      ap (λ (ls : List LabelFill). s.past_labels ++ ls) (log_labels_more (s.epoch + 1) 0 s.content.book s.log r)
      ∙ sym (append_assoc s.past_labels (log_labels p word_of (s.epoch + 1) 0 s.content.book s.log) (labels_of (s.epoch + 1) (0 + length s.log) 0 (book_now p word_of s) (batch_places r)))

  abbrev pub AreLabelsApart : LifeState → Type 0
  AreLabelsApart s = IsApart (planned_labels p word_of s) (book_now p word_of s) s.generation s.drawn (s.epoch + 1) (length s.log) 0

  apart_like : (ls ls' : List LabelFill) (book book' : ℕ → Option WordId) (g n e b b' : ℕ) → ls' ≡ ls → book' ≡ book → b' ≡ b → IsApart ls book g n e b 0 → IsApart ls' book' g n e b' 0
  apart_like ls ls' book book' g n e b b' x y z s = subst (λ (l : List LabelFill). IsApart l book' g n e b' 0) (sym x) (subst (λ (k : ℕ → Option WordId). IsApart ls k g n e b' 0) (sym y) (subst (λ (c : ℕ). IsApart ls book g n e c 0) (sym z) s))

  writes_apart : (ls : List LabelFill) (book : ℕ → Option WordId) (g n e b i : ℕ) (ws : List (ℕ × Option WordId)) (drawn : ℕ) → AreDrawn p word_of g n ws drawn → IsApart ls book g n e b i → IsApart ls (book_written p word_of book ws) g drawn e b i
  writes_apart ls book g n e b i [] drawn d s = apart_later ls book g n e b i g drawn e b i (λ w. older_yet w g n drawn d) (λ l h. h) s
  writes_apart ls book g n e b i (w ∷ ws) drawn d s = writes_apart ls (λ k. cond (k == w.0) w.1 (book k)) g (d.0.place + 1) e b i ws drawn d.4 (write_apart ls book g n e b i w.0 w.1 d.0 d.1 d.2 d.3 s)

  pub labels_step : (s : LifeState) (a : LifeAct) → IsActAllowed p word_of s a → AreLabelsApart s → AreLabelsApart (life_step p word_of s a)
  labels_step s (Open g) h inv = apart_later (planned_labels p word_of s) (book_now p word_of s) s.generation s.drawn (s.epoch + 1) (length s.log) 0 g 0 (s.epoch + 1) (length s.log) 0 (λ w. newer w s.generation s.drawn g h) (λ l k. k) inv
  labels_step s (Append r) h inv =
      let e : ℕ = s.epoch + 1 in
      let after : IsApart (planned_labels p word_of s ++ labels_of e (length s.log) 0 (book_now p word_of s) (batch_places r)) (book_after (book_now p word_of s) (batch_places r)) s.generation (r.first.place + length r.asks) e (length s.log) (0 + length r.asks) =
      label_batch (planned_labels p word_of s) (book_now p word_of s) s.generation e (length s.log) 0 s.drawn r.first r.asks h.1 h.2 inv in
      apart_like (planned_labels p word_of s ++ labels_of e (length s.log) 0 (book_now p word_of s) (batch_places r)) (planned_labels p word_of (life_step p word_of s (Append r)))
      (book_after (book_now p word_of s) (batch_places r)) (book_now p word_of (life_step p word_of s (Append r))) s.generation (r.first.place + length r.asks) e (length s.log + 1) (length (s.log ++ r ∷ []))
      (planned_more s r ∙ (let z : 0 + length s.log ≡ length s.log = omega arith in ap (λ (c : ℕ). planned_labels p word_of s ++ labels_of e c 0 (book_now p word_of s) (batch_places r)) z))
      (book_more s.content.book s.log r) (length-append s.log (r ∷ []))
      (apart_later (planned_labels p word_of s ++ labels_of e (length s.log) 0 (book_now p word_of s) (batch_places r)) (book_after (book_now p word_of s) (batch_places r)) s.generation (r.first.place + length r.asks) e (length s.log) (0 + length r.asks)
      s.generation (r.first.place + length r.asks) e (length s.log + 1) 0 (λ w k. k) (λ l. next_batch l e (length s.log) (0 + length r.asks)) after)
  labels_step s ShowBatch h inv = inv
  labels_step s ShowLifts h inv = inv
  labels_step s (End ws drawn slot) h inv =
      apart_like (planned_labels p word_of s) (planned_labels p word_of s ++ []) (book_written p word_of (book_now p word_of s) ws) (book_written p word_of (book_now p word_of s) ws) s.generation drawn (s.epoch + 1 + 1) 0 0
      (append-nil (planned_labels p word_of s)) refl refl
      (apart_later (planned_labels p word_of s) (book_written p word_of (book_now p word_of s) ws) s.generation drawn (s.epoch + 1) (length s.log) 0 s.generation drawn (s.epoch + 1 + 1) 0 0 (λ w k. k) (λ l. next_epoch l (s.epoch + 1) (length s.log) 0)
      (writes_apart (planned_labels p word_of s) (book_now p word_of s) s.generation s.drawn (s.epoch + 1) (length s.log) 0 ws drawn h.2 inv))

  -- what is shown was planned, and what was planned stays
  has_phase : (e b : ℕ) (book : ℕ → Option WordId) (log : List LifeBatch) (n : ℕ) (l : LabelFill) → Has (phase_labels p word_of e b book log n) l → Has (log_labels p word_of e b book log) l
  has_phase e b book [] n l h = h
  has_phase e b book (r ∷ log) zero l h = has_left (labels_of e b 0 book (batch_places r)) (log_labels p word_of e (b + 1) (book_after book (batch_places r)) log) l h
  has_phase e b book (r ∷ log) (suc n) l h = has_right (labels_of e b 0 book (batch_places r)) (log_labels p word_of e (b + 1) (book_after book (batch_places r)) log) l (has_phase e (b + 1) (book_after book (batch_places r)) log n l h)

  shown_planned : (s : LifeState) (a : LifeAct) (l : LabelFill) → Has (labels_shown p word_of s a) l → Has (planned_labels p word_of s) l
  shown_planned s (Open g) l h = absurd h
  shown_planned s (Append r) l h = absurd h
  shown_planned s ShowBatch l h = has_right s.past_labels (log_labels p word_of (s.epoch + 1) 0 s.content.book s.log) l (has_phase (s.epoch + 1) 0 s.content.book s.log s.begun l h)
  shown_planned s ShowLifts l h = absurd h
  shown_planned s (End ws drawn slot) l h = absurd h

  planned_stays : (s : LifeState) (a : LifeAct) (l : LabelFill) → Has (planned_labels p word_of s) l → Has (planned_labels p word_of (life_step p word_of s a)) l
  planned_stays s (Open g) l h = h
  planned_stays s (Append r) l h = subst (λ (ls : List LabelFill). Has ls l) (sym (planned_more s r)) (has_left (planned_labels p word_of s) (labels_of (s.epoch + 1) (0 + length s.log) 0 (book_now p word_of s) (batch_places r)) l h)
  planned_stays s ShowBatch l h = h
  planned_stays s ShowLifts l h = h
  planned_stays s (End ws drawn slot) l h = has_left (planned_labels p word_of s) [] l h

  pub planned_lasts : (s : LifeState) (acts : List LifeAct) (l : LabelFill) → Has (planned_labels p word_of s) l → Has (planned_labels p word_of (reached p word_of s acts)) l
  planned_lasts s [] l h = h
  planned_lasts s (a ∷ rest) l h = planned_lasts (life_step p word_of s a) rest l (planned_stays s a l h)

  pub life_planned : (s : LifeState) (acts : List LifeAct) (l : LabelFill) → Has (life_labels p word_of s acts) l → Has (planned_labels p word_of (reached p word_of s acts)) l
  life_planned s [] l h = absurd h
  life_planned s (a ∷ rest) l h = elim (has_cases (labels_shown p word_of s a) (life_labels p word_of (life_step p word_of s a) rest) l h) [
    | inl now ↦ planned_lasts (life_step p word_of s a) rest l (planned_stays s a l (shown_planned s a l now))
    | inr later ↦ life_planned (life_step p word_of s a) rest l later
  ]

  pub labels_life : (s : LifeState) (acts : List LifeAct) → IsLife p word_of s acts → AreLabelsApart s → AreLabelsApart (reached p word_of s acts)
  labels_life s [] h inv = inv
  labels_life s (a ∷ rest) h inv = labels_life (life_step p word_of s a) rest h.1 (labels_step s a h.0 inv)
