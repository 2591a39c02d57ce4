-- What a call shows that was refused is what the life would show in it.
use Rattle.std.specs.Prelude.{◌≡◌, ℕ, ◌+◌, ◌<◌, List, [], ◌∷◌, ◌++◌, length, Option}
use Rattle.std.proofs.Common.{refl, sym, ap, subst, ◌∙◌}
use Rattle.std.proofs.lemmas.List.{append-nil, length-map}
use Rattle.ob_base.specs.Repeats.{Has}
use Rattle.ob_base.specs.declared.params.Params.{Params}
use Rattle.ob_recover.specs.Life.{Append, LifeBatch, LifeState, ShowBatch, ShowLifts, SlotFill, WordId, lift_slots, table_now}
use Rattle.ob_vault.specs.Acts.{AreTapeWords}
use Rattle.ob_vault.specs.Hidden.{DrawsBatch, IsOfTape, RingHidden}
use Rattle.ob_recover.proofs.Living.{lives_show_fills}
use Rattle.ob_recover.specs.Known.{fills_with_lifts}
use Rattle.ob_recover.specs.Lives.{LifeShowsFills, life_batch}
use Rattle.ob_schedule.specs.Schedule.{Fills}
use Rattle.ob_serial.specs.Vaults.{End, Fetch}
use Rattle.ob_vault.proofs.Batches as batches
use Rattle.ob_vault.proofs.DrawnChains.{tape_before}
use Rattle.ob_vault.specs.Lives.{IsCutInLife}
use Rattle.ob_vault.specs.Shown.{AreFilledBy, IsInLife}

module _ (p : Params) (word_of : WordId → ℕ) (s : LifeState) (h : RingHidden) (here : IsInLife p word_of h s) where
  pub cut_batch : (asks : List (Option ℕ)) (f : Fills) (behind : RingHidden) (d : DrawsBatch p h asks f behind) (words : List ℕ) → IsOfTape behind words → length h.records < p.batches → AreTapeWords word_of h.generation words → IsCutInLife p word_of s (Fetch asks) f
  cut_batch asks f behind d words (more, are) some tape =
      let own : AreTapeWords word_of h.generation (h.words ++ (d.next).words) =
      tape_before word_of (record h { words = h.words ++ (d.next).words }) (record h { words = words })
      (record { more = more; words = are ∙ ap (λ (x : RingHidden). x.words ++ more) d.behind_is; generation = refl }) tape in
      record {
        acts = batches.acts p word_of s h here asks f behind d some own;
        shows = (life_batch d.next, (d.is_next).asked, refl);
        is_life = batches.batch_life p word_of s h here asks f behind d some own;
        filled = batches.batch_filled p word_of s h here asks f behind d some own;
      }

  -- and the batch's acts fill its holes so
  pub filled_batch : (asks : List (Option ℕ)) (f : Fills) (behind : RingHidden) (d : DrawsBatch p h asks f behind) (words : List ℕ) → IsOfTape behind words → length h.records < p.batches → AreTapeWords word_of h.generation words
      → AreFilledBy p word_of s (Append (life_batch d.next) ∷ ShowBatch ∷ []) (Fetch asks) f
  filled_batch asks f behind d words (more, are) some tape =
      batches.batch_filled p word_of s h here asks f behind d some
      (tape_before word_of (record h { words = h.words ++ (d.next).words }) (record h { words = words })
      (record { more = more; words = are ∙ ap (λ (x : RingHidden). x.words ++ more) d.behind_is; generation = refl }) tape)

  -- as the lifts fill an end's
  pub filled_end : (ws : List (ℕ × Option (List ℕ))) (f : Fills) → f ≡ fills_with_lifts p h.content h.records → AreFilledBy p word_of s (ShowLifts ∷ []) (End ws) f
  filled_end ws f is =
      let shows : LifeShowsFills p word_of h.content h.records s = lives_show_fills p word_of h.content h.records s here.obeys here.fit here.life in
      record {
        labels = refl;
        slots = λ x has.
            shows.lifts x (subst (λ (xs : List SlotFill). Has xs x) (append-nil (lift_slots p word_of (s.epoch + 1) s.content (table_now p word_of s))) has)
            ∙ ap (λ (y : Fills). y.slot (record { bucket = x.bucket; number = x.number })) (sym is);
      }

  pub cut_end : (ws : List (ℕ × Option (List ℕ))) (f : Fills) → f ≡ fills_with_lifts p h.content h.records → length h.records ≡ p.batches → IsCutInLife p word_of s (End ws) f
  cut_end ws f is all =
      let logged : length s.log ≡ p.batches = ap (λ (log : List LifeBatch). length log) (here.life).log ∙ length-map h.records life_batch ∙ all in
      record {
        acts = ShowLifts ∷ [];
        shows = refl;
        is_life = ((logged, here.begun ∙ logged), tt);
        filled = filled_end ws f is;
      }
