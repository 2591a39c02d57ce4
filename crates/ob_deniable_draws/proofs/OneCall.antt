-- One other call beside the row's: it draws, and shows the very notes and phases.
use Rattle.std.specs.Prelude.{◌≡◌, ℕ, ◌+◌, ◌^◌, ◌<◌, ◌≤◌, List, [], ◌∷◌, ◌++◌, length, Option}
use Rattle.std.proofs.Common.{arith, refl, sym, ap, subst, ◌∙◌}
use Rattle.std.proofs.lemmas.List.{append-nil}
use Rattle.ob_base.specs.Repeats.{Has}
use Rattle.ob_base.specs.Layout.{record_cells}
use Rattle.ob_base.specs.declared.params.Params.{Params}
use Rattle.ob_deniable.specs.Works.{LifeWork, Lifts, Logs, Shows, VersionSlots}
use Rattle.ob_fresh.specs.Drawn.{WordsKept, words_step}
use Rattle.ob_recover.specs.Known.{fills_with_lifts}
use Rattle.ob_recover.specs.Life.{Append, End as EndAct, LifeAct, LifeBatch, LifeState, ShowBatch, ShowLifts, SlotFill, WordId, life_step, lift_slots, reached, table_now}
use Rattle.ob_recover.proofs.Living.{lives_show_fills}
use Rattle.ob_recover.specs.Lives.{LifeShowsFills, life_batch}
use Rattle.ob_schedule.specs.Schedule.{Fills}
use Rattle.ob_serial.specs.Vaults.{End, Fetch}
use Rattle.ob_vault.proofs.Batches as batches
use Rattle.ob_vault.specs.Acts.{AreTapeWords, IsBatchSmall}
use Rattle.ob_vault.specs.Hidden.{RingDraws, RingHidden}
use Rattle.ob_vault.specs.Seen.{RingPublic, ring_next, ring_notes, ring_phases}
use Rattle.ob_vault.specs.Shapes.{Ends as EndsShape, Fetches}
use Rattle.ob_vault.specs.Shown.{AreFilledBy, IsInLife}
use Rattle.ob_deniable_draws.proofs.Contents.{hidden_in, words_hidden}
use Rattle.ob_deniable_draws.specs.Fit.{AreAsksFit}
use Rattle.ob_deniable_draws.proofs.BatchDraws.{batch_draws, batch_fills}
use Rattle.ob_deniable_draws.proofs.Notes.{Knows, batch_known, batch_next, batch_noted, batch_phased, end_noted, end_phased}
use Rattle.ob_deniable_draws.proofs.Pairs.{Along, along_append, along_lifts, along_show, lifts_same, logs_many, shown_same}
use Rattle.ob_deniable_draws.proofs.Stays.{in_life, records_long, word_at, words_long}

pub tape_words : (p : Params) (tape : WordId → ℕ) (g n : ℕ) → AreTapeWords tape g (words_hidden p tape (record { generation = g; place = 0 }) n)
tape_words p tape g n i lt =
    ap (λ (m : ℕ). tape (record { generation = g; place = m })) (let z : i ≡ 0 + i = omega arith in z)
    ∙ sym (word_at p tape (record { generation = g; place = 0 }) n i (omega (arith, lt, words_long p tape (record { generation = g; place = 0 }) n)))

module _ (p : Params) (some : 0 < p.dummies) (room : p.keys ≤ p.room) (w w' : WordId → ℕ) (slots : VersionSlots) where
  -- ---- a batch

  abbrev pub record_of : List (Option ℕ) → LifeBatch → LifeBatch
  record_of others b = record { asks = others; first = b.first }

  pub record BatchWalked (e : ℕ) (s s' : LifeState) (k : WordsKept) (q : RingPublic) (b : LifeBatch) (others : List (Option ℕ)) (n : ℕ) (f : Fills) (acts : List LifeAct) (work : List LifeWork) : Type 0 where
    pub own : b.first ≡ record { generation = s'.generation; place = s'.drawn }
    pub fills : Fills
    pub along : Along p some w w' slots e (reached p w s (Append b ∷ ShowBatch ∷ [])) (reached p w' s' (Append (record_of others b) ∷ ShowBatch ∷ [])) (words_step p w' s' k (Append (record_of others b))) acts work
    pub draws : RingDraws p (hidden_in p w' s' n) (Fetch others) fills (hidden_in p w' (reached p w' s' (Append (record_of others b) ∷ ShowBatch ∷ [])) (n + record_cells p))
    pub filled : AreFilledBy p w' s' (Append (record_of others b) ∷ ShowBatch ∷ []) (Fetch others) fills
    pub noted : ring_notes p q Fetches fills ≡ ring_notes p q Fetches f
    pub phased : ring_phases p q Fetches fills ≡ ring_phases p q Fetches f
    pub next : ring_next p q Fetches fills ≡ ring_next p q Fetches f
    pub knows : Knows p w' (ring_next p q Fetches fills).known (reached p w' s' (Append (record_of others b) ∷ ShowBatch ∷ []))

  pub batch_walk : (e : ℕ) (s s' : LifeState) (k : WordsKept) (q : RingPublic) (b : LifeBatch) (asks others : List (Option ℕ)) (n : ℕ) (row_f : Fills) (acts : List LifeAct) (work : List LifeWork) →
      Along p some w w' slots e s s' k (Append b ∷ ShowBatch ∷ acts) (Logs others b.first ∷ Shows ∷ work) → length b.asks ≡ length others → AreAsksFit p others → Knows p w' q.known s' → q.shown ≡ length s'.log → s'.begun ≡ length s'.log → k.drawn ≡ s'.drawn →
      s'.generation < 2 ^ 62 → s'.drawn + p.places ≤ 2 ^ 62 → n + record_cells p ≤ 2 ^ 62 → AreFilledBy p w s (Append b ∷ ShowBatch ∷ []) (Fetch asks) row_f → BatchWalked e s s' k q b others n row_f acts work
  batch_walk e s s' k q b asks others n row_f acts work a0 as_many fit knows at begun so_far low few few_seals row_filled =
      let r : LifeBatch = record_of others b in
      let own : r.first ≡ record { generation = s'.generation; place = s'.drawn } = (a0.next).0 ∙ (λ i. record { generation = s'.generation; place = so_far i }) in
      let place : b.first.place ≡ s'.drawn = ap (λ (v : WordId). v.place) own in
      let whole : length others ≡ p.places = fit.whole in
      let small : IsBatchSmall r = omega (arith, few, place, whole) in
      let a1 = along_append p some w w' slots e s s' k (ShowBatch ∷ acts) (Shows ∷ work) b others b.first as_many refl small fit a0 in
      let a2 = along_show p some w w' slots e (life_step p w s (Append b)) (life_step p w' s' (Append r)) (words_step p w' s' k (Append r)) acts work a1 in
      let f : Fills = batch_fills p w' s' r own n in
      let h : RingHidden = hidden_in p w' s' n in
      let s2' : LifeState = reached p w' s' (Append r ∷ ShowBatch ∷ []) in
      let lower : s'.generation < 2 ^ 64 = omega arith in
      let draw : RingDraws p h (Fetch others) f (hidden_in p w' s2' (n + record_cells p)) = batch_draws p w' s' r own n (a2.pair).stays whole few few_seals in
      let inside : IsInLife p w' h s' = in_life p w' s' (a0.pair).stays lower room n begun in
      let left : length h.records < p.batches = (let ok : length s'.log < p.batches = (a0.other_life).0.0 in omega (arith, ok, records_long p w' 0 s'.log)) in
      let tape : AreTapeWords w' h.generation (h.words ++ ((draw.0).next).words) =
      subst (λ (l : List ℕ). AreTapeWords w' s'.generation l) (ap (λ (x : RingHidden). x.words) (draw.0).behind_is) (tape_words p w' s'.generation (b.first.place + length others)) in
      let logged : life_batch (draw.0).next ≡ r =
      (λ i. record { asks = ((draw.0).is_next).asked i; first = record { generation = ((draw.0).is_next).generation i; place = (((draw.0).is_next).first ∙ words_long p w' (record { generation = s'.generation; place = 0 }) s'.drawn) i } })
      ∙ (λ i. record { asks = others; first = sym own i }) in
      let other_filled : AreFilledBy p w' s' (Append r ∷ ShowBatch ∷ []) (Fetch others) f =
      subst (λ (x : LifeBatch). AreFilledBy p w' s' (Append x ∷ ShowBatch ∷ []) (Fetch others) f) logged (batches.batch_filled p w' s' h inside others f (hidden_in p w' s2' (n + record_cells p)) draw.0 left tape) in
      let seen = shown_same p some w w' slots e (life_step p w s (Append b)) (life_step p w' s' (Append r)) (words_step p w' s' k (Append r)) acts work a1 in
      let many : length s.log ≡ length s'.log = logs_many p some w w' s s' (a0.pair) in
      record {
        own = own;
        fills = f;
        along = a2;
        draws = draw;
        filled = other_filled;
        noted = batch_noted p some w w' q s s' b r asks others row_f f row_filled other_filled many knows at (a0.pair).stays lower room (a0.other_life).0 begun seen.0 seen.1;
        phased = batch_phased p some w w' q s s' b r asks others row_f f row_filled other_filled many knows at (a0.pair).stays lower room (a0.other_life).0 begun seen.0 seen.1;
        next = batch_next p some w w' q s s' b r asks others row_f f row_filled other_filled many knows at (a0.pair).stays lower room (a0.other_life).0 begun seen.0 seen.1;
        knows = batch_known p some w w' q s s' b r asks others row_f f row_filled other_filled many knows at (a0.pair).stays lower room (a0.other_life).0 begun seen.0 seen.1;
      }

  -- ---- the lifts of an end

  pub record LiftsWalked (q : RingPublic) (s' : LifeState) (n : ℕ) (f : Fills) : Type 0 where
    pub fills : Fills
    pub are : fills ≡ fills_with_lifts p (hidden_in p w' s' n).content (hidden_in p w' s' n).records
    pub noted : ring_notes p q EndsShape fills ≡ ring_notes p q EndsShape f
    pub phased : ring_phases p q EndsShape fills ≡ ring_phases p q EndsShape f

  pub lifts_walk : (e : ℕ) (s s' : LifeState) (k : WordsKept) (q : RingPublic) (writes others : List (ℕ × Option (List ℕ))) (n : ℕ) (row_f : Fills) (acts : List LifeAct) (work : List LifeWork) → Along p some w w' slots e s s' k (ShowLifts ∷ acts) (Lifts ∷ work) →
      Knows p w' q.known s' → s'.begun ≡ length s'.log → s'.generation < 2 ^ 62 → AreFilledBy p w s (ShowLifts ∷ []) (End writes) row_f → LiftsWalked q s' n row_f
  lifts_walk e s s' k q writes others n row_f acts work a0 knows begun low row_filled =
      let h : RingHidden = hidden_in p w' s' n in
      let inside : IsInLife p w' h s' = in_life p w' s' (a0.pair).stays (omega arith) room n begun in
      let shows : LifeShowsFills p w' h.content h.records s' = lives_show_fills p w' h.content h.records s' inside.obeys inside.fit inside.life in
      let f : Fills = fills_with_lifts p h.content h.records in
      let none : ℕ → ℕ → ℕ = λ u j. j in
      let other_filled : AreFilledBy p w' s' (ShowLifts ∷ EndAct [] 0 none ∷ []) (End others) f = record {
        labels = refl;
        slots = λ x has. shows.lifts x (subst (λ (xs : List SlotFill). Has xs x) (append-nil (lift_slots p w' (s'.epoch + 1) s'.content (table_now p w' s'))) has);
      } in
      let filled : AreFilledBy p w s (ShowLifts ∷ EndAct [] 0 none ∷ []) (End writes) row_f = record { labels = row_filled.labels; slots = row_filled.slots } in
      let a1 = along_lifts p some w w' slots e s s' k acts work a0 in
      let seen = lifts_same p some w w' slots e s s' k acts work a0 in
      record {
        fills = f;
        are = refl;
        noted = end_noted p some w w' q s s' [] [] 0 0 none none writes others row_f f filled other_filled knows (a1.pair).stays seen;
        phased = end_phased p some w w' q s s' [] [] 0 0 none none writes others row_f f filled other_filled knows (a1.pair).stays seen;
      }
