-- The other calls of a run, one behind the other: each draws, and shows the row's very notes and phases.
use Rattle.std.specs.Prelude.{◌≡◌, ℕ, suc, ◌+◌, ◌*◌, ◌^◌, ◌<◌, ◌≤◌, List, [], ◌∷◌, ◌++◌, length, map, Option}
use Rattle.std.proofs.Common.{arith, refl, sym, ap, subst, ◌∙◌, length-append}
use Rattle.ob_base.specs.Layout.{checkpoint_cells, record_cells}
use Rattle.ob_base.specs.Tree.{width}
use Rattle.ob_base.specs.declared.params.Params.{Params}
use Rattle.ob_deniable.specs.Works.{Ends, LifeWork, Lifts, Logs, Shows, VersionSlots, acts_of}
use Rattle.ob_deniable_runs.proofs.Rows.{lifted_low}
use Rattle.ob_deniable_runs.specs.OtherCalls.{AreOtherCalls, told_write}
use Rattle.ob_end.specs.EndRuns.{lifted_many, seals_for_end}
use Rattle.ob_fresh.specs.Drawn.{AllDrawNext, EndDrawsNext, WordsKept, words_step}
use Rattle.ob_recover.specs.Known.{fills_with_lifts}
use Rattle.ob_recover.specs.Life.{Append, End as EndAct, LifeAct, LifeBatch, LifeState, ShowBatch, ShowLifts, WordId, life_step, reached}
use Rattle.ob_schedule.specs.Schedule.{Fills}
use Rattle.ob_serial.specs.Vaults.{End, Fetch, VaultCall}
use Rattle.ob_vault.proofs.Ends as ends
use Rattle.ob_vault.specs.Acts.{AreTapeWords}
use Rattle.ob_vault.specs.Hidden.{RingDraws, RingHidden, table_hidden}
use Rattle.ob_vault.specs.KindShown.{AreDrawn, public_behind, steps_notes, steps_phases}
use Rattle.ob_vault.specs.RingKind.{ring_kind}
use Rattle.ob_vault.specs.Seen.{RingPublic, ring_next, ring_notes, ring_phases}
use Rattle.ob_vault.specs.Shapes.{Ends as EndsShape, Fetches, Shape, shape_of}
use Rattle.ob_vault.specs.Shown.{AreFilledBy, AreShownBy, IsInLife}
use Rattle.ob_deniable_draws.proofs.Contents.{hidden_in}
use Rattle.ob_deniable_draws.specs.Fit.{AreCallsFit, AreWritesLow}
use Rattle.ob_deniable_draws.proofs.EndDraws.{drawn_is, end_draws}
use Rattle.ob_deniable_draws.proofs.Matching.{CallsMatch}
use Rattle.ob_deniable_draws.proofs.Notes.{Knows, end_known, end_noted, end_phased}
use Rattle.ob_deniable_draws.proofs.Numbers.{ends_in, seals_least, words_least}
use Rattle.ob_deniable_draws.proofs.OneCall.{batch_walk, tape_words}
use Rattle.ob_deniable_draws.proofs.Pairs.{Along, along_end, along_lifts, lifts_same}
use Rattle.ob_deniable_draws.proofs.Stays.{in_life}

-- ---- small facts

pub keys_told : (p : Params) (kept : List (ℕ × Option WordId)) (writes : List (ℕ × Option (List ℕ))) → map told_write kept ≡ map told_write writes → AreWritesLow p writes → AreWritesLow p kept
keys_told p [] writes told low = tt
keys_told p (x ∷ kept) [] told low = absurd (cc)
keys_told p (x ∷ kept) (y ∷ writes) told low =
    let head : told_write x ≡ told_write y = cc in
    let tail : map told_write kept ≡ map told_write writes = cc in
    (subst (λ (k : ℕ). k < p.keys) (sym (ap (λ (q : ℕ × _). q.0) head)) low.0, keys_told p kept writes tail low.1)

head_shape : (x y : Shape) (xs ys : List Shape) → x ∷ xs ≡ y ∷ ys → x ≡ y
head_shape x y xs ys e = cc

tail_shapes : (x y : Shape) (xs ys : List Shape) → x ∷ xs ≡ y ∷ ys → xs ≡ ys
tail_shapes x y xs ys e = cc

-- numbers, of a batch: n seals and d words, in the end S and D
batch_room : (n d D S rc pl sl wl : ℕ) → D ≤ 2 ^ 62 → S ≤ 2 ^ 62 → n + ((rc + sl) + D) ≤ S + ((pl + wl) + d) → d + (pl + wl) ≤ D → (d + pl ≤ 2 ^ 62) × (n + rc ≤ 2 ^ 62) × ((n + rc) + (sl + D) ≤ S + (wl + (d + pl)))
batch_room n d D S rc pl sl wl all all_seals sum least = (omega arith, omega arith, omega arith)

-- of an end
end_room : (n d D S cc' wr rows sl wl : ℕ) → D ≤ 2 ^ 62 → S ≤ 2 ^ 62 → n + ((cc' + sl) + D) ≤ S + ((wr + wl) + d) → (d + (wr + rows)) + wl ≤ D →
    (d + (wr + rows) ≤ 2 ^ 62) × (n + (rows + cc') ≤ 2 ^ 62) × ((n + (rows + cc')) + (sl + D) ≤ S + (wl + (d + (wr + rows))))
end_room n d D S cc' wr rows sl wl all all_seals sum least = (omega arith, omega arith, omega arith)

module _ (p : Params) (w : WordId → ℕ) where
  -- the row draws at least a word for each place
  row_least : (s : LifeState) (k : WordsKept) (calls others : List VaultCall) (steps : List (Shape × Fills)) (acts : List LifeAct) (work : List LifeWork) → CallsMatch p w s calls others steps acts work → AreOtherCalls p calls others → AreCallsFit p others →
      AllDrawNext p w s k acts → k.drawn ≡ s.drawn → s.drawn + words_least p others ≤ (reached p w s acts).drawn
  row_least s k [] [] [] acts work (is, are) like fit next so_far = subst (λ (xs : List LifeAct). s.drawn + 0 ≤ (reached p w s xs).drawn) (sym is) (omega arith)
  row_least s k (Fetch asks ∷ calls) (Fetch others ∷ more) (step ∷ steps) acts work (first, rest, first_work, rest_work, are, is, (b, same, first_is, first_work_is), filled, match) like fit next so_far =
      let acts_is : acts ≡ Append b ∷ ShowBatch ∷ rest = are ∙ ap (λ (xs : List LifeAct). xs ++ rest) first_is in
      let next' : AllDrawNext p w s k (Append b ∷ ShowBatch ∷ rest) = subst (λ (xs : List LifeAct). AllDrawNext p w s k xs) acts_is next in
      let match' : CallsMatch p w (reached p w s (Append b ∷ ShowBatch ∷ [])) calls more steps rest rest_work = subst (λ (xs : List LifeAct). CallsMatch p w (reached p w s xs) calls more steps rest rest_work) first_is match in
      let at : b.first.place ≡ k.drawn = ap (λ (v : WordId). v.place) next'.0 in
      let many : length b.asks ≡ p.places = ap length same ∙ like.0 ∙ (fit.0).whole in
      let later : (b.first.place + length b.asks) + words_least p more ≤ (reached p w s (Append b ∷ ShowBatch ∷ rest)).drawn =
      row_least (reached p w s (Append b ∷ ShowBatch ∷ [])) (words_step p w s k (Append b)) calls more steps rest rest_work match' like.1 fit.1 next'.1.1 (ap (λ (n : ℕ). n + length b.asks) (sym at)) in
      subst (λ (xs : List LifeAct). s.drawn + (p.places + words_least p more) ≤ (reached p w s xs).drawn) (sym acts_is) (omega (arith, later, at, many, so_far))
  row_least s k (End writes ∷ calls) (End others ∷ more) (step ∷ steps) acts work (first, rest, first_work, rest_work, are, is, (ws, drawn, slot, kept, first_is, first_work_is, told), filled, match) like fit next so_far =
      let acts_is : acts ≡ ShowLifts ∷ EndAct ws drawn slot ∷ rest = are ∙ ap (λ (xs : List LifeAct). xs ++ rest) first_is in
      let next' : AllDrawNext p w s k (ShowLifts ∷ EndAct ws drawn slot ∷ rest) = subst (λ (xs : List LifeAct). AllDrawNext p w s k xs) acts_is next in
      let match' : CallsMatch p w (reached p w s (ShowLifts ∷ EndAct ws drawn slot ∷ [])) calls more steps rest rest_work = subst (λ (xs : List LifeAct). CallsMatch p w (reached p w s xs) calls more steps rest rest_work) first_is match in
      let turn : EndDrawsNext p w (life_step p w s ShowLifts) k ws drawn slot = next'.1.0 in
      let many = turn.many in
      let later : drawn + words_least p more ≤ (reached p w s (ShowLifts ∷ EndAct ws drawn slot ∷ rest)).drawn =
      row_least (reached p w s (ShowLifts ∷ EndAct ws drawn slot ∷ [])) (words_step p w (life_step p w s ShowLifts) k (EndAct ws drawn slot)) calls more steps rest rest_work match' like.1 fit.1 next'.1.1 (sym many) in
      subst (λ (xs : List LifeAct). s.drawn + (p.writes + words_least p more) ≤ (reached p w s xs).drawn) (sym acts_is) (omega (arith, later, many, so_far))
  row_least s k (Fetch asks ∷ calls) (End others ∷ more) (step ∷ steps) acts work match like fit next so_far = absurd like.0
  row_least s k (End writes ∷ calls) (Fetch others ∷ more) (step ∷ steps) acts work match like fit next so_far = absurd like.0
  row_least s k [] [] (step ∷ steps) acts work match like fit next so_far = absurd match
  row_least s k [] (other ∷ others) steps acts work match like fit next so_far = absurd like
  row_least s k (call ∷ calls) [] steps acts work match like fit next so_far = absurd like
  row_least s k (call ∷ calls) (other ∷ others) [] acts work match like fit next so_far = absurd match

module _ (p : Params) (some : 0 < p.dummies) (room : p.keys ≤ p.room) (w w' : WordId → ℕ) (slots : VersionSlots) where
  pub record CallsWalked (S : ℕ) (e : ℕ) (s s' : LifeState) (q : RingPublic) (others : List VaultCall) (steps : List (Shape × Fills)) (n : ℕ) (acts R : List LifeAct) (work W : List LifeWork) : Type 0 where
    pub other_steps : List (Shape × Fills)
    pub shapes : map (λ (x : Shape × Fills). x.0) other_steps ≡ map shape_of others
    pub epoch_then : ℕ
    pub words_then : WordsKept
    pub called : List LifeAct
    pub shown : AreShownBy p w' s' others other_steps called
    pub split : acts_of e slots (work ++ W) ≡ called ++ acts_of epoch_then slots W
    pub seals : ℕ
    pub along : Along p some w w' slots epoch_then (reached p w s acts) (reached p w' s' called) words_then R W
    pub drawn : AreDrawn ring_kind p (hidden_in p w' s' n) others other_steps (hidden_in p w' (reached p w' s' called) seals)
    pub notes : steps_notes ring_kind p q other_steps ≡ steps_notes ring_kind p q steps
    pub phases : steps_phases ring_kind p q other_steps ≡ steps_phases ring_kind p q steps
    pub begun : (reached p w' s' called).begun ≡ length (reached p w' s' called).log
    pub so_far : words_then.drawn ≡ (reached p w' s' called).drawn
    pub generation : (reached p w' s' called).generation ≡ s'.generation
    pub few_seals : seals ≤ S
    pub knows : Knows p w' (public_behind ring_kind p q steps).known (reached p w' s' called)
    pub at : (public_behind ring_kind p q steps).shown ≡ length (reached p w' s' called).log

  -- what holds at each point
  pub record IsAt (D S : ℕ) (s s' : LifeState) (k row_k : WordsKept) (q : RingPublic) (others : List VaultCall) (n : ℕ) (acts : List LifeAct) : Type 0 where
    pub knows : Knows p w' q.known s'
    pub at : q.shown ≡ length s'.log
    pub begun : s'.begun ≡ length s'.log
    pub so_far : k.drawn ≡ s'.drawn
    pub low : s'.generation < 2 ^ 62
    pub epochs : s'.epoch + ends_in others < 2 ^ 62
    pub sum : n + (seals_least p others + D) ≤ S + (words_least p others + s'.drawn)
    pub row_next : AllDrawNext p w s row_k acts
    pub row_far : row_k.drawn ≡ s.drawn
    pub row_all : (reached p w s acts).drawn ≡ D

  module _ (D S : ℕ) (all : D ≤ 2 ^ 62) (all_seals : S ≤ 2 ^ 62) (R : List LifeAct) (W : List LifeWork) where
    pub calls_walk : (e : ℕ) (s s' : LifeState) (k row_k : WordsKept) (q : RingPublic) (calls others : List VaultCall) (steps : List (Shape × Fills)) (n : ℕ) (acts : List LifeAct) (work : List LifeWork) → Along p some w w' slots e s s' k (acts ++ R) (work ++ W) →
        CallsMatch p w s calls others steps acts work → map (λ (x : Shape × Fills). x.0) steps ≡ map shape_of calls → AreOtherCalls p calls others → AreCallsFit p others → IsAt D S s s' k row_k q others n acts → CallsWalked S e s s' q others steps n acts R work W
    calls_walk e s s' k row_k q [] [] [] n acts work a (is, are) shapes like fit here =
        subst (λ (xs : List LifeAct). CallsWalked S e s s' q [] [] n xs R work W) (sym is) (subst (λ (xs : List LifeWork). CallsWalked S e s s' q [] [] n [] R xs W) (sym are) (record {
          other_steps = [];
          shapes = refl;
          epoch_then = e;
          words_then = k;
          called = [];
          shown = refl;
          split = refl;
          seals = n;
          along = subst (λ (xs : List LifeAct). Along p some w w' slots e s s' k (xs ++ R) W) is (subst (λ (xs : List LifeWork). Along p some w w' slots e s s' k (acts ++ R) (xs ++ W)) are a);
          drawn = refl;
          notes = refl;
          phases = refl;
          begun = here.begun;
          so_far = here.so_far;
          generation = refl;
          few_seals = (let x = here.sum in let y = (a.pair).drawn in let z : s.drawn ≡ D = sym (ap (λ (xs : List LifeAct). (reached p w s xs).drawn) is) ∙ here.row_all in omega (arith, x, y, z));
          knows = here.knows;
          at = here.at;
        }))
    calls_walk e s s' k row_k q (Fetch asks ∷ calls) (Fetch others ∷ more) (step ∷ steps) n acts work a (first, rest, first_work, rest_work, are, is, (b, same, first_is, first_work_is), filled, match) shapes like fit here =
        let acts_is : acts ≡ Append b ∷ ShowBatch ∷ rest = are ∙ ap (λ (xs : List LifeAct). xs ++ rest) first_is in
        let work_is : work ≡ Logs others b.first ∷ Shows ∷ rest_work = is ∙ ap (λ (xs : List LifeWork). xs ++ rest_work) first_work_is in
        let r : LifeBatch = record { asks = others; first = b.first } in
        let a0 : Along p some w w' slots e s s' k (Append b ∷ ShowBatch ∷ (rest ++ R)) (Logs others b.first ∷ Shows ∷ (rest_work ++ W)) =
        subst (λ (xs : List LifeAct). Along p some w w' slots e s s' k (xs ++ R) (Logs others b.first ∷ Shows ∷ (rest_work ++ W))) acts_is (subst (λ (xs : List LifeWork). Along p some w w' slots e s s' k (acts ++ R) (xs ++ W)) work_is a) in
        let least : s.drawn + (p.places + words_least p more) ≤ D =
        subst (λ (m : ℕ). s.drawn + (p.places + words_least p more) ≤ m) here.row_all
        (row_least p w s row_k (Fetch asks ∷ calls) (Fetch others ∷ more) (step ∷ steps) acts work (first, rest, first_work, rest_work, are, is, (b, same, first_is, first_work_is), filled, match) like fit here.row_next here.row_far) in
        let drawn : s.drawn ≡ s'.drawn = (a.pair).drawn in
        let numbers = batch_room n s'.drawn D S (record_cells p) p.places (seals_least p more) (words_least p more) all all_seals here.sum (subst (λ (m : ℕ). m + (p.places + words_least p more) ≤ D) drawn least) in
        let row_filled : AreFilledBy p w s (Append b ∷ ShowBatch ∷ []) (Fetch asks) step.1 = subst (λ (xs : List LifeAct). AreFilledBy p w s xs (Fetch asks) step.1) first_is filled in
        let one = batch_walk p some room w w' slots e s s' k q b asks others n step.1 (rest ++ R) (rest_work ++ W) a0 (ap length same ∙ like.0) fit.0 here.knows here.at here.begun here.so_far here.low numbers.0 numbers.1 row_filled in
        let f : Fills = one.fills in
        let next = one.next in
        let place : b.first.place ≡ s'.drawn = ap (λ (v : WordId). v.place) one.own in
        let whole : length others ≡ p.places = (fit.0).whole in
        let s2 : LifeState = reached p w s (Append b ∷ ShowBatch ∷ []) in
        let s2' : LifeState = reached p w' s' (Append r ∷ ShowBatch ∷ []) in
        let shape : step.0 ≡ Fetches = head_shape step.0 Fetches (map (λ (x : Shape × Fills). x.0) steps) (map shape_of calls) shapes in
        let then_public : public_behind ring_kind p (ring_next p q Fetches f) steps ≡ public_behind ring_kind p q (step ∷ steps) = (λ i. public_behind ring_kind p (next i) steps) ∙ (λ i. public_behind ring_kind p (ring_next p q (sym shape i) step.1) steps) in
        let more_logged : length (s'.log ++ r ∷ []) ≡ length s'.log + 1 = length-append s'.log (r ∷ []) in
        let row_next' : AllDrawNext p w s row_k (Append b ∷ ShowBatch ∷ rest) = subst (λ (xs : List LifeAct). AllDrawNext p w s row_k xs) acts_is here.row_next in
        let row_place : b.first.place ≡ row_k.drawn = ap (λ (v : WordId). v.place) row_next'.0 in
        let then : IsAt D S s2 s2' (words_step p w' s' k (Append r)) (words_step p w s row_k (Append b)) (ring_next p q Fetches f) more (n + record_cells p) rest = record {
          knows = one.knows;
          at = (let x = here.at in omega (arith, x, more_logged));
          begun = (let x = here.begun in omega (arith, x, more_logged));
          so_far = (let x = here.so_far in omega (arith, x, place));
          low = here.low;
          epochs = here.epochs;
          sum = (let x = numbers.2 in omega (arith, x, place, whole));
          row_next = row_next'.1.1;
          row_far = ap (λ (m : ℕ). m + length b.asks) (sym row_place);
          row_all = ap (λ (xs : List LifeAct). (reached p w s xs).drawn) (sym acts_is) ∙ here.row_all;
        } in
        let match' : CallsMatch p w s2 calls more steps rest rest_work = subst (λ (xs : List LifeAct). CallsMatch p w (reached p w s xs) calls more steps rest rest_work) first_is match in
        let go = calls_walk e s2 s2' (words_step p w' s' k (Append r)) (words_step p w s row_k (Append b)) (ring_next p q Fetches f) calls more steps (n + record_cells p) rest rest_work one.along match'
        (tail_shapes step.0 Fetches (map (λ (x : Shape × Fills). x.0) steps) (map shape_of calls) shapes) like.1 fit.1 then in
        subst (λ (xs : List LifeAct). CallsWalked S e s s' q (Fetch others ∷ more) (step ∷ steps) n xs R work W) (sym acts_is) (subst (λ (xs : List LifeWork). CallsWalked S e s s' q (Fetch others ∷ more) (step ∷ steps) n (Append b ∷ ShowBatch ∷ rest) R xs W) (sym work_is) (record {
          other_steps = (Fetches, f) ∷ go.other_steps;
          shapes = ap (λ (xs : List Shape). Fetches ∷ xs) go.shapes;
          epoch_then = go.epoch_then;
          words_then = go.words_then;
          called = Append r ∷ ShowBatch ∷ go.called;
          shown = (Append r ∷ ShowBatch ∷ [], go.called, refl, (r, refl, refl), one.filled, go.shown);
          split = ap (λ (xs : List LifeAct). Append r ∷ ShowBatch ∷ xs) go.split;
          seals = go.seals;
          along = go.along;
          drawn = (hidden_in p w' s2' (n + record_cells p), one.draws, go.drawn);
          notes = (λ i. one.noted i ++ go.notes i) ∙ (λ i. ring_notes p q Fetches step.1 ++ steps_notes ring_kind p (next i) steps) ∙ (λ i. ring_notes p q (sym shape i) step.1 ++ steps_notes ring_kind p (ring_next p q (sym shape i) step.1) steps);
          phases = (λ i. one.phased i ++ go.phases i) ∙ (λ i. ring_phases p q Fetches step.1 ++ steps_phases ring_kind p (next i) steps) ∙ (λ i. ring_phases p q (sym shape i) step.1 ++ steps_phases ring_kind p (ring_next p q (sym shape i) step.1) steps);
          begun = go.begun;
          so_far = go.so_far;
          generation = go.generation;
          few_seals = go.few_seals;
          knows = subst (λ (x : RingPublic). Knows p w' x.known (reached p w' s2' go.called)) (then_public) go.knows;
          at = ap (λ (x : RingPublic). x.shown) (sym (then_public)) ∙ go.at;
        }))
    calls_walk e s s' k row_k q (End writes ∷ calls) (End others ∷ more) (step ∷ steps) n acts work a (first, rest, first_work, rest_work, are, is, (ws, drawn, slot, kept, first_is, first_work_is, told), filled, match) shapes like fit here =
        let acts_is : acts ≡ ShowLifts ∷ EndAct ws drawn slot ∷ rest = are ∙ ap (λ (xs : List LifeAct). xs ++ rest) first_is in
        let work_is : work ≡ Lifts ∷ Ends kept drawn ∷ rest_work = is ∙ ap (λ (xs : List LifeWork). xs ++ rest_work) first_work_is in
        let slot' : ℕ → ℕ → ℕ = slots (e + 1) in
        let a0 : Along p some w w' slots e s s' k (ShowLifts ∷ EndAct ws drawn slot ∷ (rest ++ R)) (Lifts ∷ Ends kept drawn ∷ (rest_work ++ W)) =
        subst (λ (xs : List LifeAct). Along p some w w' slots e s s' k (xs ++ R) (Lifts ∷ Ends kept drawn ∷ (rest_work ++ W))) acts_is (subst (λ (xs : List LifeWork). Along p some w w' slots e s s' k (acts ++ R) (xs ++ W)) work_is a) in
        let sl' : LifeState = life_step p w' s' ShowLifts in
        let s2 : LifeState = reached p w s (ShowLifts ∷ EndAct ws drawn slot ∷ []) in
        let s2' : LifeState = reached p w' s' (ShowLifts ∷ EndAct kept drawn slot' ∷ []) in
        let row_next' : AllDrawNext p w s row_k (ShowLifts ∷ EndAct ws drawn slot ∷ rest) = subst (λ (xs : List LifeAct). AllDrawNext p w s row_k xs) acts_is here.row_next in
        let match' : CallsMatch p w s2 calls more steps rest rest_work = subst (λ (xs : List LifeAct). CallsMatch p w (reached p w s xs) calls more steps rest rest_work) first_is match in
        let row_k2 : WordsKept = words_step p w (life_step p w s ShowLifts) row_k (EndAct ws drawn slot) in
        let row_turn : EndDrawsNext p w (life_step p w s ShowLifts) row_k ws drawn slot = row_next'.1.0 in
        let row_all' : (reached p w s2 rest).drawn ≡ D = ap (λ (xs : List LifeAct). (reached p w s xs).drawn) (sym acts_is) ∙ here.row_all in
        let least : drawn + words_least p more ≤ D = subst (λ (m : ℕ). drawn + words_least p more ≤ m) row_all' (row_least p w s2 row_k2 calls more steps rest rest_work match' like.1 fit.1 row_next'.1.1 (sym row_turn.many)) in
        let lower : s'.generation < 2 ^ 64 = (let l = here.low in omega arith) in
        let turn : EndDrawsNext p w' sl' k kept drawn slot' = (a0.next).1.0 in
        let lifts_low = lifted_low p w' s' (a.pair).stays.slots in
        let h : RingHidden = hidden_in p w' s' n in
        let rows : ℕ = lifted_many p (table_hidden p h) * width p in
        let grown : drawn ≡ s'.drawn + (p.writes + rows) = drawn_is p w' s' kept drawn slot' others told (a0.other_life).0 k here.so_far turn (a.pair).stays lower room lifts_low n in
        let numbers = end_room n s'.drawn D S (checkpoint_cells p) p.writes rows (seals_least p more) (words_least p more) all all_seals here.sum (subst (λ (m : ℕ). m + words_least p more ≤ D) grown least) in
        let small : k.drawn + p.writes ≤ 2 ^ 64 = (let x = here.so_far in let y = numbers.0 in omega (arith, x, y)) in
        let keys : AreWritesLow p kept = keys_told p kept others told fit.0 in
        let a1 = along_lifts p some w w' slots e s s' k (EndAct ws drawn slot ∷ (rest ++ R)) (Ends kept drawn ∷ (rest_work ++ W)) a0 in
        let a2 = along_end p some w w' slots e (life_step p w s ShowLifts) sl' k (rest ++ R) (rest_work ++ W) ws kept drawn slot lower room keys small a1 in
        let f : Fills = fills_with_lifts p h.content h.records in
        let epochs : suc s'.epoch < 2 ^ 62 = (let x = here.epochs in omega arith) in
        let draw : RingDraws p h (End others) f (hidden_in p w' s2' (n + seals_for_end p (table_hidden p h))) =
        end_draws p w' s' kept drawn slot' others told (a0.other_life).0 k here.so_far turn (a.pair).stays lower room lifts_low n numbers.0 (a2.pair).stays epochs numbers.1 in
        let inside : IsInLife p w' h s' = in_life p w' s' (a.pair).stays lower room n here.begun in
        let tape : AreTapeWords w' h.generation (h.words ++ draw.words) = subst (λ (l : List ℕ). AreTapeWords w' s'.generation l) draw.grows (tape_words p w' s'.generation drawn) in
        let own_filled = ends.end_filled p w' s' h inside others f (hidden_in p w' s2' (n + seals_for_end p (table_hidden p h))) draw tape in
        let other_filled : AreFilledBy p w' s' (ShowLifts ∷ EndAct kept drawn slot' ∷ []) (End others) f = record { labels = own_filled.labels; slots = own_filled.slots } in
        let row_filled : AreFilledBy p w s (ShowLifts ∷ EndAct ws drawn slot ∷ []) (End writes) step.1 = subst (λ (xs : List LifeAct). AreFilledBy p w s xs (End writes) step.1) first_is filled in
        let seen = lifts_same p some w w' slots e s s' k (EndAct ws drawn slot ∷ (rest ++ R)) (Ends kept drawn ∷ (rest_work ++ W)) a0 in
        let noted = end_noted p some w w' q s s' ws kept drawn drawn slot slot' writes others step.1 f row_filled other_filled here.knows (a1.pair).stays seen in
        let phased = end_phased p some w w' q s s' ws kept drawn drawn slot slot' writes others step.1 f row_filled other_filled here.knows (a1.pair).stays seen in
        let known = end_known p some w w' q s s' ws kept drawn drawn slot slot' writes others step.1 f row_filled other_filled here.knows (a1.pair).stays seen in
        let shape : step.0 ≡ EndsShape = head_shape step.0 EndsShape (map (λ (x : Shape × Fills). x.0) steps) (map shape_of calls) shapes in
        let then_public : public_behind ring_kind p (ring_next p q EndsShape f) steps ≡ public_behind ring_kind p q (step ∷ steps) = (λ i. public_behind ring_kind p (ring_next p q (sym shape i) step.1) steps) in
        let then : IsAt D S s2 s2' (words_step p w' sl' k (EndAct kept drawn slot')) row_k2 (ring_next p q EndsShape f) more (n + seals_for_end p (table_hidden p h)) rest = record {
          knows = known;
          at = refl;
          begun = refl;
          so_far = sym turn.many;
          low = here.low;
          epochs = (let x = here.epochs in omega arith);
          sum = (let x = numbers.2 in omega (arith, x, grown));
          row_next = row_next'.1.1;
          row_far = sym row_turn.many;
          row_all = row_all';
        } in
        let go = calls_walk (e + 1) s2 s2' (words_step p w' sl' k (EndAct kept drawn slot')) row_k2 (ring_next p q EndsShape f) calls more steps (n + seals_for_end p (table_hidden p h)) rest rest_work a2 match'
        (tail_shapes step.0 EndsShape (map (λ (x : Shape × Fills). x.0) steps) (map shape_of calls) shapes) like.1 fit.1 then in
        subst (λ (xs : List LifeAct). CallsWalked S e s s' q (End others ∷ more) (step ∷ steps) n xs R work W) (sym acts_is) (subst (λ (xs : List LifeWork). CallsWalked S e s s' q (End others ∷ more) (step ∷ steps) n (ShowLifts ∷ EndAct ws drawn slot ∷ rest) R xs W) (sym work_is) (record {
          other_steps = (EndsShape, f) ∷ go.other_steps;
          shapes = ap (λ (xs : List Shape). EndsShape ∷ xs) go.shapes;
          epoch_then = go.epoch_then;
          words_then = go.words_then;
          called = ShowLifts ∷ EndAct kept drawn slot' ∷ go.called;
          shown = (ShowLifts ∷ EndAct kept drawn slot' ∷ [], go.called, refl, (kept, drawn, slot', refl), other_filled, go.shown);
          split = ap (λ (xs : List LifeAct). ShowLifts ∷ EndAct kept drawn slot' ∷ xs) go.split;
          seals = go.seals;
          along = go.along;
          drawn = (hidden_in p w' s2' (n + seals_for_end p (table_hidden p h)), draw, go.drawn);
          notes = (λ i. noted i ++ go.notes i) ∙ (λ i. ring_notes p q (sym shape i) step.1 ++ steps_notes ring_kind p (ring_next p q (sym shape i) step.1) steps);
          phases = (λ i. phased i ++ go.phases i) ∙ (λ i. ring_phases p q (sym shape i) step.1 ++ steps_phases ring_kind p (ring_next p q (sym shape i) step.1) steps);
          begun = go.begun;
          so_far = go.so_far;
          generation = go.generation;
          few_seals = go.few_seals;
          knows = subst (λ (x : RingPublic). Knows p w' x.known (reached p w' s2' go.called)) (then_public) go.knows;
          at = ap (λ (x : RingPublic). x.shown) (sym (then_public)) ∙ go.at;
        }))
    calls_walk e s s' k row_k q (Fetch asks ∷ calls) (End others ∷ more) (step ∷ steps) n acts work a match shapes like fit here = absurd like.0
    calls_walk e s s' k row_k q (End writes ∷ calls) (Fetch others ∷ more) (step ∷ steps) n acts work a match shapes like fit here = absurd like.0
    calls_walk e s s' k row_k q [] [] (step ∷ steps) n acts work a match shapes like fit here = absurd match
    calls_walk e s s' k row_k q [] (other ∷ others) steps n acts work a match shapes like fit here = absurd like
    calls_walk e s s' k row_k q (call ∷ calls) [] steps n acts work a match shapes like fit here = absurd like
    calls_walk e s s' k row_k q (call ∷ calls) (other ∷ others) [] n acts work a match shapes like fit here = absurd match
