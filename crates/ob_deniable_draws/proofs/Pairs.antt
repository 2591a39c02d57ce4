-- A row of runs beside its other work, act by act.
use Rattle.std.specs.Prelude.{◌≡◌, ℕ, ◌+◌, ◌-◌, ◌^◌, ◌<◌, ◌≤◌, Bool, cond, List, ◌∷◌, ◌++◌, map, length, Option}
use Rattle.std.specs.List.{flat_map, range_with_len}
use Rattle.std.proofs.Common.{zero, suc, arith, refl, sym, ap, ◌∙◌, inl, inr}
use Rattle.std.proofs.lemmas.Bool.{leb-false}
use Rattle.ob_base.specs.Tree.{below}
use Rattle.ob_base.specs.declared.params.Params.{Params}
use Rattle.ob_deniable.proofs.Acts.{Alike, Known, append_keeps, end_keeps, faces_now, lifts_keep, now_known, open_keeps, shows_keep}
use Rattle.ob_deniable.proofs.Pairs.{cons_head, cons_tail}
use Rattle.ob_deniable.proofs.Shapes.{logs_long}
use Rattle.ob_deniable.proofs.Tables.{leaf', up_same}
use Rattle.ob_deniable.specs.Telling.{ActFills, fills_of_acts, leaf_fill}
use Rattle.ob_deniable.specs.Works.{Ends, LifeWork, Lifts, Logs, Opens, Shows, VersionSlots, acts_of}
use Rattle.ob_deniable_runs.proofs.Both.{leaves_in_fills}
use Rattle.ob_deniable_runs.proofs.Rows.{lifted_low}
use Rattle.ob_fresh.specs.Drawn.{AllDrawNext, WordsKept, words_step}
use Rattle.ob_recover.specs.Life.{Append, End, IsLife, LifeAct, LifeBatch, LifeState, Open, ShowBatch, ShowLifts, WordId, book_now, is_table_lifted, labels_shown, life_step, phase_labels, slots_shown, table_now}
use Rattle.ob_recover.specs.LifePublic.{leaves_in, public_in}
use Rattle.ob_ring.specs.FlatTable.{reads}
use Rattle.ob_vault.specs.Acts.{IsBatchSmall}
use Rattle.ob_deniable_draws.specs.Fit.{AreAsksFit, AreWritesLow}
use Rattle.ob_deniable_draws.proofs.Keeping.{append_stays, end_stays, lifts_stay, open_stays, show_stays}
use Rattle.ob_deniable_draws.proofs.Stays.{Stays}

flat_same : (f g : ℕ → List ℕ) (a n : ℕ) → ((i : ℕ) → i < a + n → f i ≡ g i) → flat_map f (range_with_len a n) ≡ flat_map g (range_with_len a n)
flat_same f g a zero same = refl
flat_same f g a (suc n) same = (λ j. same a (omega arith) j ++ flat_same f g (a + 1) n (λ i low. same i (omega arith)) j)

module _ (p : Params) (some : 0 < p.dummies) (w w' : WordId → ℕ) where
  pub record Pair (s s' : LifeState) : Type 0 where
    pub alike : Alike p some w w' s s'
    pub homes : (u : ℕ) → s.content.home u ≡ s'.content.home u
    pub generation : s.generation ≡ s'.generation
    pub drawn : s.drawn ≡ s'.drawn
    pub stays : Stays p w' s'

  pub logs_many : (s s' : LifeState) → Pair s s' → length s.log ≡ length s'.log
  logs_many s s' pair = logs_long p s.log s'.log (pair.alike).holes.log

  -- what is public of both is the same
  pub public_pair : (s s' : LifeState) (gates : ℕ → Bool) → Pair s s' → public_in p w s gates ≡ public_in p w' s' gates
  public_pair s s' gates pair i = record {
    epoch = (pair.alike).holes.epoch i;
    homes = λ u. pair.homes u i;
    counts = λ u. counts_same u i;
    counter = (pair.alike).faces.counter i;
    gates = gates;
    leaves = leaves_same i;
  }
    where
      counts_same : (u : ℕ) → reads p s.content.table u ≡ reads p s'.content.table u
      counts_same u =
          let f = (pair.alike).faces in
          let few : f.count u < p.dummies = leb-false p.dummies (f.count u) (sym (f.counted'.lifted_is u) ∙ (pair.stays).ready.down u) in
          f.counted.reads_is u few ∙ sym (f.counted'.reads_is u few)

      leaves_same : flat_map (leaves_in p w s) (below s.begun) ≡ flat_map (leaves_in p w' s') (below s'.begun)
      leaves_same =
          flat_same (leaves_in p w s) (leaves_in p w' s') 0 s.begun (λ n low. (pair.alike).known n (inl (omega arith)) ∙ (λ j. map (leaf' p some w w') (phase_labels p w' ((pair.alike).holes.epoch j + 1) 0 s'.content.book s'.log n)))
          ∙ ap (λ (n : ℕ). flat_map (leaves_in p w' s') (below n)) (pair.alike).holes.begun

  module _ (slots : VersionSlots) where
    pub record Along (e : ℕ) (s s' : LifeState) (k : WordsKept) (acts : List LifeAct) (work : List LifeWork) : Type 0 where
      pub pair : Pair s s'
      pub is_life : IsLife p w s acts
      pub other_life : IsLife p w' s' (acts_of e slots work)
      pub next : AllDrawNext p w' s' k (acts_of e slots work)
      pub same : fills_of_acts p w s acts ≡ fills_of_acts p w' s' (acts_of e slots work)

    module _ (e : ℕ) (s s' : LifeState) (k : WordsKept) (acts : List LifeAct) (work : List LifeWork) where
      pub along_open : (g : ℕ) → Along e s s' k (Open g ∷ acts) (Opens g ∷ work) → Along e (life_step p w s (Open g)) (life_step p w' s' (Open g)) (words_step p w' s' k (Open g)) acts work
      along_open g a = record {
        pair = record {
          alike = open_keeps p some w w' s s' (a.pair).alike g g (a.is_life).0 (a.other_life).0;
          homes = (a.pair).homes;
          generation = refl;
          drawn = refl;
          stays = open_stays p w' some s' g (a.other_life).0 (a.pair).stays;
        };
        is_life = (a.is_life).1;
        other_life = (a.other_life).1;
        next = (a.next).1;
        same = cons_tail _ _ _ _ a.same;
      }

      pub along_append : (r : LifeBatch) (others : List (Option ℕ)) (first : WordId) → length r.asks ≡ length others → r.first ≡ first → IsBatchSmall (record { asks = others; first = first }) → AreAsksFit p others → Along e s s' k (Append r ∷ acts) (Logs others first ∷ work) →
          Along e (life_step p w s (Append r)) (life_step p w' s' (Append (record { asks = others; first = first }))) (words_step p w' s' k (Append (record { asks = others; first = first }))) acts work
      along_append r others first many at small fit a = record {
        pair = record {
          alike = append_keeps p some w w' s s' (a.pair).alike r (record { asks = others; first = first }) many (a.is_life).0 (a.other_life).0;
          homes = (a.pair).homes;
          generation = (a.pair).generation;
          drawn = λ i. (at i).place + many i;
          stays = append_stays p w' some s' (record { asks = others; first = first }) (a.other_life).0 small fit (a.pair).stays;
        };
        is_life = (a.is_life).1;
        other_life = (a.other_life).1;
        next = (a.next).1;
        same = cons_tail _ _ _ _ a.same;
      }

      -- what this act fills is the same
      pub shown_same : Along e s s' k (ShowBatch ∷ acts) (Shows ∷ work) → (map (leaf_fill p w) (labels_shown p w s ShowBatch) ≡ map (leaf_fill p w') (labels_shown p w' s' ShowBatch)) × (slots_shown p w s ShowBatch ≡ slots_shown p w' s' ShowBatch)
      shown_same a =
          let head : ◌≡◌ {A = ActFills} (record { leaves = map (leaf_fill p w) (labels_shown p w s ShowBatch); slots = slots_shown p w s ShowBatch }) (record { leaves = map (leaf_fill p w') (labels_shown p w' s' ShowBatch); slots = slots_shown p w' s' ShowBatch }) = cons_head _ _ _ _ a.same in
          (ap (λ (f : ActFills). f.leaves) head, ap (λ (f : ActFills). f.slots) head)

      pub lifts_same : Along e s s' k (ShowLifts ∷ acts) (Lifts ∷ work) → slots_shown p w s ShowLifts ≡ slots_shown p w' s' ShowLifts
      lifts_same a =
          let head : ◌≡◌ {A = ActFills} (record { leaves = map (leaf_fill p w) (labels_shown p w s ShowLifts); slots = slots_shown p w s ShowLifts }) (record { leaves = map (leaf_fill p w') (labels_shown p w' s' ShowLifts); slots = slots_shown p w' s' ShowLifts }) = cons_head _ _ _ _ a.same in
          ap (λ (f : ActFills). f.slots) head

      pub along_show : Along e s s' k (ShowBatch ∷ acts) (Shows ∷ work) → Along e (life_step p w s ShowBatch) (life_step p w' s' ShowBatch) k acts work
      along_show a =
          let now : Known p some w w' s s' s.begun = now_known p some w w' s s' (a.pair).alike (leaves_in_fills p w w' some (labels_shown p w s ShowBatch) (labels_shown p w' s' ShowBatch) (shown_same a).0) in
          record {
            pair = record {
              alike = shows_keep p some w w' s s' (a.pair).alike (a.is_life).0 (a.other_life).0 now;
              homes = (a.pair).homes;
              generation = (a.pair).generation;
              drawn = (a.pair).drawn;
              stays = show_stays p w' some s' (a.other_life).0 (a.pair).stays;
            };
            is_life = (a.is_life).1;
            other_life = (a.other_life).1;
            next = (a.next).1;
            same = cons_tail _ _ _ _ a.same;
          }

      pub along_lifts : Along e s s' k (ShowLifts ∷ acts) (Lifts ∷ work) → Along e (life_step p w s ShowLifts) (life_step p w' s' ShowLifts) k acts work
      along_lifts a = record {
        pair = record {
          alike = lifts_keep p some w w' s s' (a.pair).alike (a.is_life).0 (a.other_life).0;
          homes = (a.pair).homes;
          generation = (a.pair).generation;
          drawn = (a.pair).drawn;
          stays = lifts_stay p w' some s' (a.other_life).0 (a.pair).stays;
        };
        is_life = (a.is_life).1;
        other_life = (a.other_life).1;
        next = (a.next).1;
        same = cons_tail _ _ _ _ a.same;
      }

      pub along_end : (vs ws : List (ℕ × Option WordId)) (drawn : ℕ) (slot : ℕ → ℕ → ℕ) → s'.generation < 2 ^ 64 → p.keys ≤ p.room → AreWritesLow p ws → k.drawn + p.writes ≤ 2 ^ 64 → Along e s s' k (End vs drawn slot ∷ acts) (Ends ws drawn ∷ work) →
          Along (e + 1) (life_step p w s (End vs drawn slot)) (life_step p w' s' (End ws drawn (slots (e + 1)))) (words_step p w' s' k (End ws drawn (slots (e + 1)))) acts work
      along_end vs ws drawn slot low room keys small a =
          let faces = faces_now p some w w' s s' (a.pair).alike (λ n. (a.pair).alike.known n (inr (a.is_life).0.0)) in
          let up : (u : ℕ) → is_table_lifted p w s u ≡ is_table_lifted p w' s' u = up_same p some w w' (table_now p w s) (table_now p w' s') (book_now p w s) (book_now p w' s') faces in
          record {
            pair = record {
              alike = end_keeps p some w w' s s' (a.pair).alike vs ws drawn drawn slot (slots (e + 1)) (a.is_life).0 (a.other_life).0;
              homes = λ u i. cond (up u i) (1 - (a.pair).homes u i) ((a.pair).homes u i);
              generation = (a.pair).generation;
              drawn = refl;
              stays = end_stays p w' some s' ws drawn k.drawn (slots (e + 1)) (a.other_life).0 (a.pair).stays low room keys (a.next).0.puts (let few = (a.next).0.few in omega (arith, few, small))
                  (lifted_low p w' s' (a.pair).stays.slots);
            };
            is_life = (a.is_life).1;
            other_life = (a.other_life).1;
            next = (a.next).1;
            same = cons_tail _ _ _ _ a.same;
          }
