-- The words that a work uses, for the places of records and for puts; what holds of these holds of each that a label shows.
use Rattle.std.specs.Prelude.{◌≡◌, ℕ, ◌+◌, ◌==◌, cond, List, [], ◌∷◌, ◌++◌, Option, ⊤}
use Rattle.std.specs.declared.option.Option.TheVariants.{Some}
use Rattle.std.proofs.Common.{zero, suc, sym, subst, inl, inr}
use Rattle.ob_base.specs.declared.params.Params.{Params}
use Rattle.ob_base.specs.Repeats.{Has}
use Rattle.ob_base.proofs.Repeats.{has_cases}
use Rattle.ob_ring.specs.FlatTable.{after_label, asks_for, shown_label}
use Rattle.ob_recover.specs.Life.{WordId, LifeAct, LifeBatch, LifeState, Open, Append, ShowBatch, ShowLifts, End, LabelFill, batch_places, book_after, book_after_log, book_now, book_written, labels_of, labels_shown, life_labels, life_step, phase_labels}
use Rattle.ob_recover.proofs.LabelLaws.{label_from, put_from, rebound_from}
use Rattle.ob_deniable_runs.proofs.Agree.{AreActsAgreed, AreAgreed, ArePutsAgreed}

module _ (P : WordId → Type 0) where
  abbrev pub ArePlacesIn : List (Option ℕ × WordId) → Type 0
  ArePlacesIn [] = ⊤
  ArePlacesIn (a ∷ rest) = P a.1 × ArePlacesIn rest

  abbrev IsLogIn : List LifeBatch → Type 0
  IsLogIn [] = ⊤
  IsLogIn (r ∷ rs) = ArePlacesIn (batch_places r) × IsLogIn rs

  abbrev pub IsPutIn : Option WordId → Type 0
  IsPutIn o = (v : WordId) → o ≡ Some v → P v

  abbrev pub ArePutsIn : List (ℕ × Option WordId) → Type 0
  ArePutsIn [] = ⊤
  ArePutsIn (x ∷ ws) = IsPutIn x.1 × ArePutsIn ws

  abbrev IsActIn : LifeAct → Type 0
  IsActIn (Append r) = ArePlacesIn (batch_places r)
  IsActIn (End ws drawn slot) = ArePutsIn ws
  IsActIn a = ⊤

  abbrev pub AreActsIn : List LifeAct → Type 0
  AreActsIn [] = ⊤
  AreActsIn (a ∷ rest) = IsActIn a × AreActsIn rest

  abbrev IsBookIn : (ℕ → Option WordId) → Type 0
  IsBookIn book = (k : ℕ) → IsPutIn (book k)

  -- ---- labels

  label_in : (book : ℕ → Option WordId) (ask : Option ℕ) (own : WordId) → IsBookIn book → P own → P (shown_label book ask own)
  label_in book ask own held new = elim (label_from book ask own) [
    | inl same ↦ subst P (sym same) new
    | inr old ↦ held old.0 (shown_label book ask own) old.2
  ]

  label_keeps : (book : ℕ → Option WordId) (ask : Option ℕ) (own : WordId) → IsBookIn book → P own → IsBookIn (after_label book ask own)
  label_keeps book ask own held new k v e = elim (rebound_from (asks_for ask k) own (book k) v e) [
    | inl now ↦ subst P now.1 new
    | inr old ↦ held k v old.1
  ]

  labels_in_row : (e b i : ℕ) (book : ℕ → Option WordId) (places : List (Option ℕ × WordId)) → IsBookIn book → ArePlacesIn places → (l : LabelFill) → Has (labels_of e b i book places) l → P l.word
  labels_in_row e b i book [] held h l has = absurd has
  labels_in_row e b i book (a ∷ rest) held h l (inl is) = subst (λ (m : LabelFill). P m.word) is (label_in book a.0 a.1 held h.0)
  labels_in_row e b i book (a ∷ rest) held h l (inr later) = labels_in_row e b (i + 1) (after_label book a.0 a.1) rest (label_keeps book a.0 a.1 held h.0) h.1 l later

  places_keep : (book : ℕ → Option WordId) (places : List (Option ℕ × WordId)) → IsBookIn book → ArePlacesIn places → IsBookIn (book_after book places)
  places_keep book [] held h = held
  places_keep book (a ∷ rest) held h = places_keep (after_label book a.0 a.1) rest (label_keeps book a.0 a.1 held h.0) h.1

  logs_more : (log : List LifeBatch) (r : LifeBatch) → IsLogIn log → ArePlacesIn (batch_places r) → IsLogIn (log ++ r ∷ [])
  logs_more [] r h now = (now, tt)
  logs_more (x ∷ log) r h now = (h.0, logs_more log r h.1 now)

  module _ (p : Params) (w : WordId → ℕ) where
    log_keeps : (book : ℕ → Option WordId) (log : List LifeBatch) → IsBookIn book → IsLogIn log → IsBookIn (book_after_log p w book log)
    log_keeps book [] held h = held
    log_keeps book (r ∷ rs) held h = log_keeps (book_after book (batch_places r)) rs (places_keep book (batch_places r) held h.0) h.1

    puts_keep : (book : ℕ → Option WordId) (ws : List (ℕ × Option WordId)) → IsBookIn book → ArePutsIn ws → IsBookIn (book_written p w book ws)
    puts_keep book [] held h = held
    puts_keep book (x ∷ ws) held h = puts_keep (λ k. cond (k == x.0) x.1 (book k)) ws (λ k v e. elim (put_from (k == x.0) x.1 (book k) v e) [ inl put ↦ h.0 v put.1 | inr old ↦ held k v old.1 ]) h.1

    phase_in : (e b : ℕ) (book : ℕ → Option WordId) (log : List LifeBatch) (n : ℕ) → IsBookIn book → IsLogIn log → (l : LabelFill) → Has (phase_labels p w e b book log n) l → P l.word
    phase_in e b book [] n held h l has = absurd has
    phase_in e b book (r ∷ rs) zero held h l has = labels_in_row e b 0 book (batch_places r) held h.0 l has
    phase_in e b book (r ∷ rs) (suc n) held h l has = phase_in e (b + 1) (book_after book (batch_places r)) rs n (places_keep book (batch_places r) held h.0) h.1 l has

    pub labels_used : (s : LifeState) (acts : List LifeAct) → IsBookIn s.content.book → IsLogIn s.log → AreActsIn acts → (l : LabelFill) → Has (life_labels p w s acts) l → P l.word
    labels_used s [] held logged h l has = absurd has
    labels_used s (Open g ∷ rest) held logged h l has = labels_used (life_step p w s (Open g)) rest held logged h.1 l has
    labels_used s (Append r ∷ rest) held logged h l has = labels_used (life_step p w s (Append r)) rest held (logs_more s.log r logged h.0) h.1 l has
    labels_used s (ShowBatch ∷ rest) held logged h l has = elim (has_cases (labels_shown p w s ShowBatch) (life_labels p w (life_step p w s ShowBatch) rest) l has) [
      | inl now ↦ phase_in (s.epoch + 1) 0 s.content.book s.log s.begun held logged l now
      | inr later ↦ labels_used (life_step p w s ShowBatch) rest held logged h.1 l later
    ]
    labels_used s (ShowLifts ∷ rest) held logged h l has = labels_used (life_step p w s ShowLifts) rest held logged h.1 l has
    labels_used s (End ws drawn slot ∷ rest) held logged h l has =
        labels_used (life_step p w s (End ws drawn slot)) rest (puts_keep (book_now p w s) ws (log_keeps s.content.book s.log held logged) h.0) tt h.1 l has

  -- ---- two tapes that agree in all such words

  module _ (p : Params) (w w' : WordId → ℕ) (each : (v : WordId) → P v → w v ≡ w' v) where
    places_agree : (places : List (Option ℕ × WordId)) → ArePlacesIn places → AreAgreed p w w' places
    places_agree [] h = tt
    places_agree (a ∷ rest) h = (each a.1 h.0, places_agree rest h.1)

    puts_agree : (ws : List (ℕ × Option WordId)) → ArePutsIn ws → ArePutsAgreed p w w' ws
    puts_agree [] h = tt
    puts_agree (x ∷ ws) h = (λ v e. each v (h.0 v e), puts_agree ws h.1)

    pub used_agree : (acts : List LifeAct) → AreActsIn acts → AreActsAgreed p w w' acts
    used_agree [] h = tt
    used_agree (Open g ∷ rest) h = (tt, used_agree rest h.1)
    used_agree (Append r ∷ rest) h = (places_agree (batch_places r) h.0, used_agree rest h.1)
    used_agree (ShowBatch ∷ rest) h = (tt, used_agree rest h.1)
    used_agree (ShowLifts ∷ rest) h = (tt, used_agree rest h.1)
    used_agree (End ws drawn slot ∷ rest) h = (puts_agree ws h.0, used_agree rest h.1)
