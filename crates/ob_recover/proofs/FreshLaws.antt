-- Lives are fresh, and attempts agree.
use Rattle.std.specs.Prelude.{◌≡◌, ℕ, ◌+◌, ◌<◌, ◌≤◌, false, List, [], ◌∷◌, ◌++◌, length, Option}
use Rattle.std.proofs.Common.{zero, suc, arith, refl, sym, ap, ◌∙◌, length-append}
use Rattle.std.proofs.lemmas.Bool.{lt-leb}
use Rattle.std.proofs.lemmas.Nat.{pow_pos}
use Rattle.std.proofs.lemmas.List.{append_assoc, append-nil}
use Rattle.ob_tables.specs.Rank.{IsRanking}
use Rattle.ob_base.specs.declared.params.Params.{Params}
use Rattle.ob_ring.specs.FlatTable.{FlatTable, after_batch}
use Rattle.ob_recover.specs.Life.{lift_slots, table_after, WordId, LifeBatch, LifeContent, LifeState, LifeAct, Open, Append, ShowBatch, ShowLifts, End, formatted_life, reached, life_step, batch_places, book_after, leaves, phase_labels, phase_slots}
use Rattle.ob_recover.specs.LifeLaws.{LivesAreFresh, AttemptsAgree, LiftsAgree, PartsAreFresh}
use Rattle.ob_recover.proofs.EndLaws.{none_counted}
use Rattle.ob_recover.proofs.LifeLabels.{AreLabelsApart, labels_life, life_planned as labels_planned}
use Rattle.ob_recover.proofs.LifeSlots.{AreSlotsSound, slots_life, life_planned as slots_planned}

pub labels_formatted : (p : Params) (word_of : WordId → ℕ) (slot : ℕ → ℕ → ℕ) → AreLabelsApart p word_of (formatted_life slot)
labels_formatted p word_of slot = record {
  held_once = λ k k' w h h'. absurd (cc);
  held_old = λ k w h. absurd (cc);
  shown_old = λ l h. absurd h;
  not_held = λ l k h e. h;
  by_word = λ l m h. absurd h;
  by_name = λ l m h. absurd h;
  named = λ l h. absurd h;
}

pub slots_formatted : (p : Params) (word_of : WordId → ℕ) (slot : ℕ → ℕ → ℕ) → 0 < p.dummies → ((u : ℕ) → IsRanking (p.real + p.dummies) (slot u)) → AreSlotsSound p word_of (formatted_life slot)
slots_formatted p word_of slot some ranked = record {
  count = λ u. 0;
  seen = record { shown = λ u j. false; next = λ u. 0 };
  sound = record { placed = λ k u j e. absurd (cc); alone = λ k k' u j e f. absurd (cc) };
  counted = record { lifted_is = λ u. sym (lt-leb p.dummies 0 some); reads_is = λ u h. none_counted (p.real + p.dummies) };
  low = λ k. pow_pos p.levels;
  bound = λ u out. some;
  marks = record { shown_is = λ u j h. refl; next_is = λ u h. sym (none_counted (p.real + p.dummies)) };
  full = λ on. absurd (cc);
  slots = record {
    ranked = ranked;
    versions_old = λ u. omega arith;
    present = λ f h. absurd h;
    old = λ f h. absurd h;
    by_slot = λ f g h. absurd h;
    by_number = λ f g h. absurd h;
    epochs = λ f h. absurd h;
    this_epoch = λ f h. absurd h;
    one_version = λ f g h. absurd h;
  };
}

pub lives_are_fresh : LivesAreFresh
lives_are_fresh p word_of slot acts some ranked life =
    let s : LifeState = formatted_life slot in
    let a : AreLabelsApart p word_of (reached p word_of s acts) = labels_life p word_of s acts life (labels_formatted p word_of slot) in
    let start : AreSlotsSound p word_of s = slots_formatted p word_of slot some ranked in
    let b : AreSlotsSound p word_of (reached p word_of s acts) = slots_life p word_of some s acts life start in
    record {
      labels_apart = λ l m h g. a.by_word l m (labels_planned p word_of s acts l h) (labels_planned p word_of s acts m g);
      labels_again = λ l m h g. a.by_name l m (labels_planned p word_of s acts l h) (labels_planned p word_of s acts m g);
      slots_apart = λ f g h i. b.slots.by_slot f g (slots_planned p word_of some s acts f life start h) (slots_planned p word_of some s acts g life start i);
      slots_again = λ f g h i x y z. (
          let hf = slots_planned p word_of some s acts f life start h in
          let hg = slots_planned p word_of some s acts g life start i in
          b.slots.by_number f g hf hg y (b.slots.one_version f g hf hg x y) z);
    }

-- ---- attempts

module _ (p : Params) (word_of : WordId → ℕ) where
  pub phase_labels_more : (e b : ℕ) (book : ℕ → Option WordId) (log more : List LifeBatch) (n : ℕ) → n < length log → phase_labels p word_of e b book (log ++ more) n ≡ phase_labels p word_of e b book log n
  phase_labels_more e b book [] more n h = absurd (omega arith)
  phase_labels_more e b book (r ∷ log) more zero h = refl
  phase_labels_more e b book (r ∷ log) more (suc n) h = phase_labels_more e (b + 1) (book_after book (batch_places r)) log more n (omega arith)

  phase_slots_more : (e : ℕ) (c : LifeContent) (t : FlatTable) (log more : List LifeBatch) (n : ℕ) → n < length log → phase_slots p word_of e c t (log ++ more) n ≡ phase_slots p word_of e c t log n
  phase_slots_more e c t [] more n h = absurd (omega arith)
  phase_slots_more e c t (r ∷ log) more zero h = refl
  phase_slots_more e c t (r ∷ log) more (suc n) h = phase_slots_more e c (after_batch p t (leaves p word_of (batch_places r))) log more n (omega arith)

  record Extends (s s' : LifeState) : Type 0 where
    later : s.epoch ≤ s'.epoch
    content : s'.epoch ≡ s.epoch → s'.content ≡ s.content
    log : s'.epoch ≡ s.epoch → (more : List LifeBatch) × (s'.log ≡ s.log ++ more)

  extends_step : (s : LifeState) (a : LifeAct) → Extends s (life_step p word_of s a)
  extends_step s (Open g) = record { later = omega arith; content = λ e. refl; log = λ e. ([], sym (append-nil s.log)) }
  extends_step s (Append r) = record { later = omega arith; content = λ e. refl; log = λ e. (r ∷ [], refl) }
  extends_step s ShowBatch = record { later = omega arith; content = λ e. refl; log = λ e. ([], sym (append-nil s.log)) }
  extends_step s ShowLifts = record { later = omega arith; content = λ e. refl; log = λ e. ([], sym (append-nil s.log)) }
  extends_step s (End ws drawn slot) = record { later = omega arith; content = λ e. absurd (omega arith); log = λ e. absurd (omega arith) }

  extends : (s : LifeState) (acts : List LifeAct) → Extends s (reached p word_of s acts)
  extends s [] = record { later = omega arith; content = λ e. refl; log = λ e. ([], sym (append-nil s.log)) }
  extends s (a ∷ rest) =
      let one : Extends s (life_step p word_of s a) = extends_step s a in
      let more : Extends (life_step p word_of s a) (reached p word_of (life_step p word_of s a) rest) = extends (life_step p word_of s a) rest in
      record {
        later = omega (arith, one.later, more.later);
        content = λ e. (let x : (life_step p word_of s a).epoch ≡ s.epoch = omega (arith, one.later, more.later) in more.content (e ∙ sym x) ∙ one.content x);
        log = λ e. (let x : (life_step p word_of s a).epoch ≡ s.epoch = omega (arith, one.later, more.later) in
            let l = one.log x in let m = more.log (e ∙ sym x) in
            (l.0 ++ m.0, m.1 ∙ ap (λ (rs : List LifeBatch). rs ++ m.0) l.1 ∙ append_assoc s.log l.0 m.0));
      }

pub attempts_agree : AttemptsAgree
attempts_agree p word_of s acts life same begun within =
    let s' : LifeState = reached p word_of s acts in
    let x = extends p word_of s acts in
    let c = x.content same in
    let l = x.log same in (
      (λ i. phase_labels p word_of (same i + 1) 0 (c i).book (l.1 i) (begun i)) ∙ phase_labels_more p word_of (s.epoch + 1) 0 s.content.book s.log l.0 s.begun within,
      (λ i. phase_slots p word_of (same i + 1) (c i) (c i).table (l.1 i) (begun i)) ∙ phase_slots_more p word_of (s.epoch + 1) s.content s.content.table s.log l.0 s.begun within,
    )

nothing_more : (xs ys : List LifeBatch) (n : ℕ) → length xs ≡ n → length (xs ++ ys) ≡ n → xs ++ ys ≡ xs
nothing_more xs [] n e f = append-nil xs
nothing_more xs (y ∷ ys) n e f = absurd (omega (arith, length-append xs (y ∷ ys)))

pub lifts_agree : LiftsAgree
lifts_agree p word_of s acts life same full full' =
    let x = extends p word_of s acts in
    let c = x.content same in
    let l = x.log same in
    let log : (reached p word_of s acts).log ≡ s.log = l.1 ∙ nothing_more s.log l.0 p.batches full (ap length (sym l.1) ∙ full') in
    λ i. lift_slots p word_of (same i + 1) (c i) (table_after p word_of (c i).table (log i))

pub parts_are_fresh : PartsAreFresh
parts_are_fresh labels ls slots fs in_l in_f fresh = record {
  labels_apart = λ l m h g. fresh.labels_apart l m (in_l l h) (in_l m g);
  labels_again = λ l m h g. fresh.labels_again l m (in_l l h) (in_l m g);
  slots_apart = λ f g h i. fresh.slots_apart f g (in_f f h) (in_f g i);
  slots_again = λ f g h i. fresh.slots_again f g (in_f f h) (in_f g i);
}
