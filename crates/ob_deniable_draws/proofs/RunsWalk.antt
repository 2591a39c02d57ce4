-- Run by run, the other calls draw what shows the row's very notes and phases.
use Rattle.std.specs.Prelude.{◌≡◌, ℕ, zero, suc, ◌+◌, ◌*◌, ◌^◌, ◌<◌, ◌≤◌, List, [], ◌∷◌, ◌++◌, length, map, Option, None, Some}
use Rattle.std.proofs.Common.{arith, refl, sym, ap, subst, ◌∙◌, inl, inr, length-append}
use Rattle.std.proofs.lemmas.Nat.{pow_pos}
use Rattle.std.proofs.lemmas.List.{append-nil}
use Rattle.ob_base.specs.Layout.{record_cells}
use Rattle.ob_base.specs.Tree.{buckets, width}
use Rattle.ob_base.specs.declared.params.Params.{Params}
use Rattle.ob_deniable.proofs.Exchanging.{at_first}
use Rattle.ob_deniable.specs.Works.{Ends, LifeWork, Lifts, Logs, Opens, Shows, VersionSlots, acts_of, words_moved}
use Rattle.ob_deniable_runs.proofs.Denied.{runs_are_deniable}
use Rattle.ob_deniable_runs.specs.OtherCalls.{AreOtherCalls, AreOtherRuns, IsOtherRefused, OtherRun, shows_again}
use Rattle.ob_fresh.specs.Drawn.{WordsKept, formatted_words, words_step}
use Rattle.ob_recover.proofs.Ending.{batch_counter}
use Rattle.ob_recover.proofs.EndLaws.{none_counted}
use Rattle.ob_recover.proofs.Fills.{RecordsLead, content_leads}
use Rattle.ob_recover.proofs.FreshLaws.{slots_formatted}
use Rattle.ob_recover.proofs.Living.{lives_show_fills}
use Rattle.ob_recover.specs.Calls.{repeated}
use Rattle.ob_recover.specs.Known.{gates_open, public_of_kept}
use Rattle.ob_recover.specs.Life.{Append, End as EndAct, IsLife, LifeAct, LifeBatch, LifeState, Open, ShowBatch, ShowLifts, WordId, batch_places, formatted_life, leaves, life_step, reached, table_after, table_now}
use Rattle.ob_recover.specs.LifePublic.{public_in}
use Rattle.ob_recover.specs.Lives.{LifeShowsFills}
use Rattle.ob_ring.specs.FlatTable.{FlatTable, after_batch}
use Rattle.ob_ring.specs.Laws.{seen_in}
use Rattle.ob_ring.specs.Sound.{IsCounted}
use Rattle.ob_schedule.specs.Schedule.{Fills, Public, counts_now}
use Rattle.ob_serial.specs.Vaults.{End, Fetch, VaultCall}
use Rattle.ob_stand.specs.Counts.{public_of}
use Rattle.ob_stand.specs.Table.{flat_of}
use Rattle.ob_store.specs.Disk.{Disk}
use Rattle.ob_tables.specs.Rank.{IsRanking}
use Rattle.ob_vault.proofs.Publics.{public_is}
use Rattle.ob_vault.specs.Acts.{IsBatchSmall}
use Rattle.ob_vault.specs.Hidden.{RingHidden}
use Rattle.ob_vault.specs.Joined.{RunPart, Served, Stopped}
use Rattle.ob_vault.specs.KindShown.{AreDrawn, public_behind}
use Rattle.ob_vault.specs.Lives.{opening_acts}
use Rattle.ob_vault.specs.RingKind.{RingFound, ring_hidden, ring_kind, ring_public}
use Rattle.ob_vault.specs.Seen.{RingPublic}
use Rattle.ob_vault.specs.Shapes.{Shape, shape_of}
use Rattle.ob_vault.specs.Shown.{IsInLife}
use Rattle.ob_deniable_draws.proofs.Contents.{hidden_in, words_hidden}
use Rattle.ob_deniable_draws.specs.Draws.{AreDrawnLikewise, AreRowDrawn, AreRunsFit, DrawsAreDeniable, IsCutLikewise, IsCutShownBy, IsDrawnLikewise, IsRefusedFit}
use Rattle.ob_deniable_draws.specs.Fit.{AreCallsFit, AreWritesLow}
use Rattle.ob_deniable_draws.proofs.Matching.{CallsMatch, RefusedMatch}
use Rattle.ob_deniable_draws.proofs.Notes.{Knows}
use Rattle.ob_deniable_draws.proofs.Numbers.{AreCounted, are_counted, ends_alike, seals_alike, seals_least, words_alike, words_least}
use Rattle.ob_deniable_draws.proofs.Pairs.{Along, Pair, along_append, along_end, along_lifts, along_open, along_show, logs_many, public_pair}
use Rattle.ob_deniable_draws.proofs.Sides.{RowCut, RowRun, RunsMatch, acts_again, opened_is, opening_work, repeated_more, runs_matched, runs_work}
use Rattle.ob_deniable_draws.proofs.Stays.{Stays, in_life, records_long}
use Rattle.ob_deniable_draws.proofs.OneCall.{batch_walk, lifts_walk, tape_words}
use Rattle.ob_deniable_draws.proofs.Walking.{CallsWalked, IsAt, calls_walk, keys_told}

-- ---- what acts of calls keep

module _ (p : Params) (w : WordId → ℕ) where
  keep_generation : (s : LifeState) (calls others : List VaultCall) (steps : List (Shape × Fills)) (acts : List LifeAct) (work : List LifeWork) → CallsMatch p w s calls others steps acts work → (reached p w s acts).generation ≡ s.generation
  keep_generation s [] [] [] acts work (is, are) = ap (λ (xs : List LifeAct). (reached p w s xs).generation) is
  keep_generation s (Fetch asks ∷ calls) (Fetch others ∷ more) (step ∷ steps) acts work (first, rest, first_work, rest_work, are, is, (b, same, first_is, first_work_is), filled, match) =
      ap (λ (xs : List LifeAct). (reached p w s xs).generation) (are ∙ ap (λ (xs : List LifeAct). xs ++ rest) first_is)
      ∙ keep_generation (reached p w s (Append b ∷ ShowBatch ∷ [])) calls more steps rest rest_work (subst (λ (xs : List LifeAct). CallsMatch p w (reached p w s xs) calls more steps rest rest_work) first_is match)
  keep_generation s (End writes ∷ calls) (End others ∷ more) (step ∷ steps) acts work (first, rest, first_work, rest_work, are, is, (ws, drawn, slot, kept, first_is, first_work_is, told), filled, match) =
      ap (λ (xs : List LifeAct). (reached p w s xs).generation) (are ∙ ap (λ (xs : List LifeAct). xs ++ rest) first_is)
      ∙ keep_generation (reached p w s (ShowLifts ∷ EndAct ws drawn slot ∷ [])) calls more steps rest rest_work (subst (λ (xs : List LifeAct). CallsMatch p w (reached p w s xs) calls more steps rest rest_work) first_is match)
  keep_generation s (Fetch asks ∷ calls) (End others ∷ more) (step ∷ steps) acts work (first, rest, first_work, rest_work, are, is, own, filled, match) = absurd own
  keep_generation s (End writes ∷ calls) (Fetch others ∷ more) (step ∷ steps) acts work (first, rest, first_work, rest_work, are, is, own, filled, match) = absurd own
  keep_generation s [] [] (step ∷ steps) acts work match = absurd match
  keep_generation s [] (other ∷ others) steps acts work match = absurd match
  keep_generation s (call ∷ calls) [] steps acts work match = absurd match
  keep_generation s (call ∷ calls) (other ∷ others) [] acts work match = absurd match

  -- a run found as many records as its life's log has
  logs_found : (h behind : RingHidden) (s : LifeState) (calls others : List VaultCall) (steps : List (Shape × Fills)) (acts : List LifeAct) (work : List LifeWork) → AreDrawn ring_kind p h calls steps behind → CallsMatch p w s calls others steps acts work → IsLife p w s acts →
      length behind.records ≡ length (reached p w s acts).log → length h.records ≡ length s.log
  logs_found h behind s [] [] [] acts work drawn (is, are) life last = ap (λ (x : RingHidden). length x.records) (sym drawn) ∙ last ∙ ap (λ (xs : List LifeAct). length (reached p w s xs).log) is
  logs_found h behind s (Fetch asks ∷ calls) (Fetch others ∷ more) (step ∷ steps) acts work (mid, (d, fit), drawn) (first, rest, first_work, rest_work, are, is, (b, same, first_is, first_work_is), filled, match) life last =
      let acts_is : acts ≡ Append b ∷ ShowBatch ∷ rest = are ∙ ap (λ (xs : List LifeAct). xs ++ rest) first_is in
      let life' : IsLife p w s (Append b ∷ ShowBatch ∷ rest) = subst (λ (xs : List LifeAct). IsLife p w s xs) acts_is life in
      let later : length mid.records ≡ length (s.log ++ b ∷ []) =
      logs_found mid behind (reached p w s (Append b ∷ ShowBatch ∷ [])) calls more steps rest rest_work drawn (subst (λ (xs : List LifeAct). CallsMatch p w (reached p w s xs) calls more steps rest rest_work) first_is match) life'.1.1
      (last ∙ ap (λ (xs : List LifeAct). length (reached p w s xs).log) acts_is) in
      let grown : length mid.records ≡ length h.records + 1 = ap (λ (x : RingHidden). length x.records) d.behind_is ∙ length-append h.records (d.next ∷ []) in
      omega (arith, later, grown, length-append s.log (b ∷ []))
  logs_found h behind s (End writes ∷ calls) (End others ∷ more) (step ∷ steps) acts work (mid, d, drawn) (first, rest, first_work, rest_work, are, is, (ws, last_drawn, slot, kept, first_is, first_work_is, told), filled, match) life last =
      let life' : IsLife p w s (ShowLifts ∷ EndAct ws last_drawn slot ∷ rest) = subst (λ (xs : List LifeAct). IsLife p w s xs) (are ∙ ap (λ (xs : List LifeAct). xs ++ rest) first_is) life in
      d.all ∙ sym life'.0.0
  logs_found h behind s (Fetch asks ∷ calls) (End others ∷ more) (step ∷ steps) acts work drawn (first, rest, first_work, rest_work, are, is, own, filled, match) life last = absurd own
  logs_found h behind s (End writes ∷ calls) (Fetch others ∷ more) (step ∷ steps) acts work drawn (first, rest, first_work, rest_work, are, is, own, filled, match) life last = absurd own
  logs_found h behind s [] [] (step ∷ steps) acts work drawn match life last = absurd match
  logs_found h behind s [] (other ∷ others) steps acts work drawn match life last = absurd match
  logs_found h behind s (call ∷ calls) [] steps acts work drawn match life last = absurd match
  logs_found h behind s (call ∷ calls) (other ∷ others) [] acts work drawn match life last = absurd match

  log_counter : (t : FlatTable) (log : List LifeBatch) → (table_after p w t log).counter ≡ t.counter
  log_counter t [] = refl
  log_counter t (r ∷ log) = log_counter (after_batch p t (leaves p w (batch_places r))) log ∙ batch_counter p t (leaves p w (batch_places r))

sum_begun : (a sl wl D : ℕ) → a + (wl + 0) ≡ 0 + (sl + D) → 0 + (sl + D) ≤ a + (wl + 0)
sum_begun a sl wl D sum = omega arith

module _ (p : Params) (some : 0 < p.dummies) (room : p.keys ≤ p.room) (w w' : WordId → ℕ) (slots : VersionSlots) where
  abbrev Beside : ℕ → LifeState → LifeState → WordsKept → List LifeAct → List LifeWork → Type 0
  Beside e s s' k acts work = Along p some w w' slots e s s' k acts work

  -- ---- openings

  again_along : (n e : ℕ) (s s' : LifeState) (k : WordsKept) (R : List LifeAct) (W : List LifeWork) → Beside e s s' k (repeated n ++ R) (shows_again n ++ W) → Beside e (reached p w s (repeated n)) (reached p w' s' (repeated n)) k R W
  again_along zero e s s' k R W a = a
  again_along (suc n) e s s' k R W a = again_along n e (life_step p w s ShowBatch) (life_step p w' s' ShowBatch) k R W (along_show p some w w' slots e s s' k (repeated n ++ R) (shows_again n ++ W) a)

  opening_same : (s s' : LifeState) → Pair p some w w' s s' → opening_acts s ≡ opening_acts s'
  opening_same s s' pair i = Open (suc (pair.generation i)) ∷ repeated (logs_many p some w w' s s' pair i)

  opening_along : (e : ℕ) (s s' : LifeState) (k : WordsKept) (R : List LifeAct) (W : List LifeWork) → Beside e s s' k (opening_acts s ++ R) (opening_work s ++ W) →
      Beside e (reached p w s (opening_acts s)) (reached p w' s' (opening_acts s')) (record k { drawn = 0 }) R W
  opening_along e s s' k R W a =
      subst (λ (xs : List LifeAct). Beside e (reached p w s (opening_acts s)) (reached p w' s' xs) (record k { drawn = 0 }) R W) (opening_same s s' a.pair)
      (again_along (length s.log) e (life_step p w s (Open (suc s.generation))) (life_step p w' s' (Open (suc s.generation))) (record k { drawn = 0 }) R W
      (along_open p some w w' slots e s s' k (repeated (length s.log) ++ R) (shows_again (length s.log) ++ W) (suc s.generation) a))

  opening_split : (e : ℕ) (s s' : LifeState) (W : List LifeWork) → Pair p some w w' s s' → acts_of e slots (opening_work s ++ W) ≡ opening_acts s' ++ acts_of e slots W
  opening_split e s s' W pair = ap (λ (xs : List LifeAct). Open (suc s.generation) ∷ xs) (acts_again e slots (length s.log) W) ∙ ap (λ (xs : List LifeAct). xs ++ acts_of e slots W) (opening_same s s' pair)

  -- ---- what is left of a refused call

  record LeftWalked (q : RingPublic) (row behind : RingHidden) (refused other : Option VaultCall) (words : List ℕ) (e : ℕ) (s s' : LifeState) (left R : List LifeAct) (left_work W : List LifeWork) : Type 0 where
    acts : List LifeAct
    epoch_then : ℕ
    words_then : WordsKept
    split : acts_of e slots (left_work ++ W) ≡ acts ++ acts_of epoch_then slots W
    along : Beside epoch_then (reached p w s left) (reached p w' s' acts) words_then R W
    cut : IsCutLikewise p w' q row behind refused other words acts

  module _ (R : List LifeAct) (W : List LifeWork) (e : ℕ) (s s' : LifeState) (k : WordsKept) (q : RingPublic) (row : RingHidden) (words : List ℕ) (n : ℕ) (low : s'.generation < 2 ^ 62) (few : k.drawn ≤ 2 ^ 62) (knows : Knows p w' q.known s') (at : q.shown ≡ length s'.log)
      (begun : s'.begun ≡ length s'.log) (so_far : k.drawn ≡ s'.drawn) (all : s'.drawn ≡ length row.words) (few_seals : n ≤ row.seals) where
    abbrev Left : Option VaultCall → Option VaultCall → List LifeAct → List LifeWork → Type 0
    Left refused other left left_work = LeftWalked q row (hidden_in p w' s' n) refused other words e s s' left R left_work W

    nothing_left : (refused other : Option VaultCall) (left : List LifeAct) (left_work : List LifeWork) → left ≡ [] → left_work ≡ [] → IsCutLikewise p w' q row (hidden_in p w' s' n) refused other words [] → Beside e s s' k (left ++ R) (left_work ++ W) →
        Left refused other left left_work
    nothing_left refused other left left_work none empty cut a =
        subst (λ (xs : List LifeAct). Left refused other xs left_work) (sym none) (subst (λ (xs : List LifeWork). Left refused other [] xs) (sym empty) (record {
          acts = [];
          epoch_then = e;
          words_then = k;
          split = refl;
          along = subst (λ (xs : List LifeAct). Beside e s s' k (xs ++ R) W) none (subst (λ (xs : List LifeWork). Beside e s s' k (left ++ R) (xs ++ W)) empty a);
          cut = cut;
        }))

    along_as : (left to : List LifeAct) (left_work to_work : List LifeWork) → left ≡ to → left_work ≡ to_work → Beside e s s' k (left ++ R) (left_work ++ W) → Beside e s s' k (to ++ R) (to_work ++ W)
    along_as left to left_work to_work is are a = subst (λ (xs : List LifeAct). Beside e s s' k (xs ++ R) (to_work ++ W)) is (subst (λ (xs : List LifeWork). Beside e s s' k (left ++ R) (xs ++ W)) are a)

    walked_as : (refused other : Option VaultCall) (left to : List LifeAct) (left_work to_work : List LifeWork) → left ≡ to → left_work ≡ to_work → Left refused other to to_work → Left refused other left left_work
    walked_as refused other left to left_work to_work is are a = subst (λ (xs : List LifeAct). Left refused other xs left_work) (sym is) (subst (λ (xs : List LifeWork). Left refused other to xs) (sym are) a)

    lower : s'.generation < 2 ^ 64
    lower = omega arith

    no_batch : (A : Type 0) (others : List (Option ℕ)) (xs : List LifeAct) → ((a : LifeAct) (b : LifeAct) → xs ≡ a ∷ b ∷ [] → ⊥) → IsCutShownBy (Fetch others) xs → A
    no_batch A others xs short shows = absurd (short (Append shows.0) ShowBatch shows.2)

    -- what the lifts show
    lifts_cut : (writes others : List (ℕ × Option (List ℕ))) (left acts : List LifeAct) (rest : List LifeAct) (rest_work : List LifeWork) → Beside e s s' k (ShowLifts ∷ rest) (Lifts ∷ rest_work) → RowCut p w s row (Some (End writes)) words left →
        IsCutLikewise p w' q row (hidden_in p w' s' n) (Some (End writes)) (Some (End others)) words acts
    lifts_cut writes others left acts rest rest_work a filled shows f draws =
        let one = lifts_walk p some room w w' slots e s s' k q writes others n f rest rest_work a knows begun low (filled f draws) in
        (one.fills, words_hidden p w' (record { generation = s'.generation; place = 0 }) s'.drawn, one.are, tape_words p w' s'.generation s'.drawn, one.noted, one.phased)

    left_walk : (refused other : Option VaultCall) (left : List LifeAct) (left_work : List LifeWork) → RefusedMatch refused other left left_work → IsOtherRefused p refused other → IsRefusedFit p other → RowCut p w s row refused words left → Beside e s s' k (left ++ R) (left_work ++ W) →
        Left refused other left left_work
    left_walk None None left left_work (none, empty) like fit filled a = nothing_left None None left left_work none empty tt a
    left_walk (Some (Fetch asks)) (Some (Fetch others)) left left_work (inl (none, empty)) like fit filled a =
        nothing_left (Some (Fetch asks)) (Some (Fetch others)) left left_work none empty (λ shows. no_batch _ others [] (λ x y is. absurd (cc)) shows) a
    left_walk (Some (Fetch asks)) (Some (Fetch others)) left left_work (inr (inl (b, same, is, are))) like fit filled a =
        let r : LifeBatch = record { asks = others; first = b.first } in
        let a0 : Beside e s s' k (Append b ∷ R) (Logs others b.first ∷ W) = along_as left (Append b ∷ []) left_work (Logs others b.first ∷ []) is are a in
        let small : IsBatchSmall r = (let place : b.first.place ≡ k.drawn = ap (λ (v : WordId). v.place) (a0.next).0 in let whole = fit.whole in let many = (p.in_range).few_places in omega (arith, place, whole, many)) in
        walked_as (Some (Fetch asks)) (Some (Fetch others)) left (Append b ∷ []) left_work (Logs others b.first ∷ []) is are (record {
          acts = Append r ∷ [];
          epoch_then = e;
          words_then = words_step p w' s' k (Append r);
          split = refl;
          along = along_append p some w w' slots e s s' k R W b others b.first (ap length same ∙ like) refl small fit a0;
          cut = λ shows. no_batch _ others (Append r ∷ []) (λ x y is. absurd (cc)) shows;
        })
    left_walk (Some (Fetch asks)) (Some (Fetch others)) left left_work (inr (inr (b, same, is, are))) like fit filled a =
        let r : LifeBatch = record { asks = others; first = b.first } in
        let a0 : Beside e s s' k (Append b ∷ ShowBatch ∷ R) (Logs others b.first ∷ Shows ∷ W) = along_as left (Append b ∷ ShowBatch ∷ []) left_work (Logs others b.first ∷ Shows ∷ []) is are a in
        let small : IsBatchSmall r = (let place : b.first.place ≡ k.drawn = ap (λ (v : WordId). v.place) (a0.next).0 in let whole = fit.whole in let many = (p.in_range).few_places in omega (arith, place, whole, many)) in
        walked_as (Some (Fetch asks)) (Some (Fetch others)) left (Append b ∷ ShowBatch ∷ []) left_work (Logs others b.first ∷ Shows ∷ []) is are (record {
          acts = Append r ∷ ShowBatch ∷ [];
          epoch_then = e;
          words_then = words_step p w' s' k (Append r);
          split = refl;
          along = along_show p some w w' slots e (life_step p w s (Append b)) (life_step p w' s' (Append r)) (words_step p w' s' k (Append r)) R W
              (along_append p some w w' slots e s s' k (ShowBatch ∷ R) (Shows ∷ W) b others b.first (ap length same ∙ like) refl small fit a0);
          cut = λ shows f (then, d, of_tape). (
              let words_few : s'.drawn + p.places ≤ 2 ^ 62 = (let x = d.few in omega (arith, x, all)) in
              let seals_few : n + record_cells p ≤ 2 ^ 62 = (let x = d.few_seals in omega (arith, x, few_seals)) in
              let one = batch_walk p some room w w' slots e s s' k q b asks others n f R W a0 (ap length same ∙ like) fit knows at begun so_far low words_few seals_few (filled b is f (then, d, of_tape)) in
              let grown : ℕ = r.first.place + length others in
              let behind : RingHidden = hidden_in p w' (reached p w' s' (Append r ∷ ShowBatch ∷ [])) (n + record_cells p) in
              (one.fills, words_hidden p w' (record { generation = s'.generation; place = 0 }) grown, (behind, (one.draws).0, ([], sym (append-nil behind.words))), tape_words p w' s'.generation grown, one.noted, one.phased));
        })
    left_walk (Some (End writes)) (Some (End others)) left left_work (inl (none, empty)) like fit filled a =
        nothing_left (Some (End writes)) (Some (End others)) left left_work none empty (λ shows. no_lifts shows.0 shows.1) a
      where
        no_lifts : {A : Type 0} (rest : List LifeAct) → ◌≡◌ {A = List LifeAct} [] (ShowLifts ∷ rest) → A
        no_lifts rest is = absurd (cc)
    left_walk (Some (End writes)) (Some (End others)) left left_work (inr (inl (is, are))) like fit filled a =
        let a0 : Beside e s s' k (ShowLifts ∷ R) (Lifts ∷ W) = along_as left (ShowLifts ∷ []) left_work (Lifts ∷ []) is are a in
        walked_as (Some (End writes)) (Some (End others)) left (ShowLifts ∷ []) left_work (Lifts ∷ []) is are (record {
          acts = ShowLifts ∷ [];
          epoch_then = e;
          words_then = k;
          split = refl;
          along = along_lifts p some w w' slots e s s' k R W a0;
          cut = lifts_cut writes others left (ShowLifts ∷ []) R W a0 filled;
        })
    left_walk (Some (End writes)) (Some (End others)) left left_work (inr (inr (ws, drawn, slot, kept, is, are, told))) like fit filled a =
        let a0 : Beside e s s' k (ShowLifts ∷ EndAct ws drawn slot ∷ R) (Lifts ∷ Ends kept drawn ∷ W) = along_as left (ShowLifts ∷ EndAct ws drawn slot ∷ []) left_work (Lifts ∷ Ends kept drawn ∷ []) is are a in
        let keys : AreWritesLow p kept = keys_told p kept others told fit in
        let small : k.drawn + p.writes ≤ 2 ^ 64 = (let many = (p.in_range).few_writes in omega (arith, many)) in
        walked_as (Some (End writes)) (Some (End others)) left (ShowLifts ∷ EndAct ws drawn slot ∷ []) left_work (Lifts ∷ Ends kept drawn ∷ []) is are (record {
          acts = ShowLifts ∷ EndAct kept drawn (slots (e + 1)) ∷ [];
          epoch_then = e + 1;
          words_then = words_step p w' (life_step p w' s' ShowLifts) k (EndAct kept drawn (slots (e + 1)));
          split = refl;
          along = along_end p some w w' slots e (life_step p w s ShowLifts) (life_step p w' s' ShowLifts) k R W ws kept drawn slot lower room keys small
              (along_lifts p some w w' slots e s s' k (EndAct ws drawn slot ∷ R) (Ends kept drawn ∷ W) a0);
          cut = lifts_cut writes others left (ShowLifts ∷ EndAct kept drawn (slots (e + 1)) ∷ []) (EndAct ws drawn slot ∷ R) (Ends kept drawn ∷ W) a0 filled;
        })
    left_walk (Some (Fetch asks)) (Some (End others)) left left_work match like fit filled a = absurd match
    left_walk (Some (End writes)) (Some (Fetch others)) left left_work match like fit filled a = absurd match
    left_walk None (Some other) left left_work match like fit filled a = absurd match
    left_walk (Some call) None left left_work match like fit filled a = absurd match

  -- ---- a run

  module _ (e : ℕ) (s s' : LifeState) (k : WordsKept) (found : RingFound) (calls others : List VaultCall) (steps : List (Shape × Fills)) (behind : RingHidden) (called R : List LifeAct) (called_work W : List LifeWork)
      (a : Beside e (reached p w s (opening_acts s)) (reached p w' s' (opening_acts s')) (record k { drawn = 0 }) (called ++ R) (called_work ++ W)) (match : CallsMatch p w (reached p w s (opening_acts s)) calls others steps called called_work)
      (row : RowRun p w (reached p w s (opening_acts s)) found calls steps behind called) (shapes : map (λ (x : Shape × Fills). x.0) steps ≡ map shape_of calls) (drew : AreDrawn ring_kind p (ring_hidden found) calls steps behind)
      (like : AreOtherCalls p calls others) (fit : AreCallsFit p others) where
    abbrev s1 : LifeState
    s1 = reached p w s (opening_acts s)

    abbrev s1' : LifeState
    s1' = reached p w' s' (opening_acts s')

    abbrev q : RingPublic
    q = ring_public p found

    abbrev D : ℕ
    D = length behind.words

    numbers : AreCounted p (ring_hidden found) behind calls
    numbers = are_counted p (ring_hidden found) behind calls steps drew

    pub all_few : D ≤ 2 ^ 62
    all_few = numbers.words (omega arith)

    pub low : s1'.generation < 2 ^ 62
    low = subst (λ (n : ℕ). n < 2 ^ 62) (sym numbers.generation ∙ sym row.generation_then ∙ keep_generation p w s1 calls others steps called called_work match ∙ (a.pair).generation) row.low

    lower_1 : s1'.generation < 2 ^ 64
    lower_1 = (let l = low in omega arith)

    begun_1 : s1'.begun ≡ length s1'.log
    begun_1 = ap (λ (x : LifeState). x.begun) (opened_is p w' s') ∙ sym (ap (λ (x : LifeState). length x.log) (opened_is p w' s'))

    drawn_1 : s1'.drawn ≡ 0
    drawn_1 = ap (λ (x : LifeState). x.drawn) (opened_is p w' s')

    abbrev h1 : RingHidden
    h1 = hidden_in p w' s1' 0

    inside : IsInLife p w' h1 s1'
    inside = in_life p w' s1' (a.pair).stays lower_1 room 0 begun_1

    public_same : public_of_kept p h1.content h1.records h1.epoch (found.run).gates ≡ q.known
    public_same = public_is p w' s1' h1 inside (found.run).gates ∙ sym (public_pair p some w w' s1 s1' (gates_open (found.run).gates) a.pair) ∙ sym row.known

    to_life : q.known ≡ public_in p w' s1' (gates_open (found.run).gates)
    to_life = row.known ∙ public_pair p some w w' s1 s1' (gates_open (found.run).gates) a.pair

    shows : LifeShowsFills p w' h1.content h1.records s1'
    shows = lives_show_fills p w' h1.content h1.records s1' inside.obeys inside.fit inside.life

    lead : RecordsLead p (flat_of p h1.content) (public_of h1.content h1.epoch (gates_open (found.run).gates)) (seen_in p (flat_of p h1.content)) h1.records
    lead = content_leads p h1.content h1.epoch (gates_open (found.run).gates) h1.records inside.obeys

    knows : Knows p w' q.known s1'
    knows = record {
      homes = λ u. ap (λ (x : Public). x.homes u) to_life;
      counted = subst (λ (x : Public). IsCounted p (table_now p w' s1') (counts_now p x)) public_same
          (subst (λ (t : FlatTable). IsCounted p t (counts_now p (public_of_kept p h1.content h1.records h1.epoch (found.run).gates))) (sym shows.table) lead.counted);
      counter = log_counter p w' s1'.content.table s1'.log ∙ sym (ap (λ (x : Public). x.counter) to_life);
    }

    batches : length found.records ≡ length s1'.log
    batches = logs_found p w (ring_hidden found) behind s1 calls others steps called called_work drew match row.is_life row.batches_then ∙ logs_many p some w w' s1 s1' a.pair

    abbrev row_k : WordsKept
    row_k = record k { drawn = 0 }

    row_none : 0 ≡ s1.drawn
    row_none = sym (ap (λ (x : LifeState). x.drawn) (opened_is p w s))

    start : IsAt p some room w w' slots D behind.seals s1 s1' (record k { drawn = 0 }) row_k q others 0 called
    start = record {
      knows = knows;
      at = batches;
      begun = begun_1;
      so_far = sym drawn_1;
      low = low;
      epochs = (let x : (ring_hidden found).epoch ≡ s1'.epoch = ap (λ (x : Public). x.epoch) to_life in let y = numbers.epoch in let z = numbers.epochs row.epoch in let v = ends_alike p calls others like in omega (arith, x, y, z, v));
      sum = subst (λ (m : ℕ). 0 + (seals_least p others + D) ≤ behind.seals + (words_least p others + m)) (sym drawn_1)
          (sum_begun behind.seals (seals_least p others) (words_least p others) D
          ((λ i. behind.seals + (sym (words_alike p calls others like) i + 0)) ∙ numbers.sum ∙ (λ i. 0 + (seals_alike p calls others like i + D))));
      row_next = row.turn row_k row_none;
      row_far = row_none;
      row_all = row.drawn_then;
    }

    pub walked : CallsWalked p some room w w' slots behind.seals e s1 s1' q others steps 0 called R called_work W
    walked = calls_walk p some room w w' slots D behind.seals all_few (numbers.seals (omega arith)) R W e s1 s1' (record k { drawn = 0 }) row_k q calls others steps 0 called called_work a match shapes like fit start

    pub all_then : (reached p w' s1' walked.called).drawn ≡ D
    all_then = sym ((walked.along).pair).drawn ∙ row.drawn_then

    pub few_then : (walked.words_then).drawn ≤ 2 ^ 62
    few_then = (let x = walked.so_far in let y = ((walked.along).pair).drawn in let z = row.drawn_then in let v = all_few in omega (arith, x, y, z, v))

    pub low_then : (reached p w' s1' walked.called).generation < 2 ^ 62
    low_then = subst (λ (n : ℕ). n < 2 ^ 62) (sym walked.generation) low

    abbrev h2 : RingHidden
    h2 = hidden_in p w' (reached p w' s1' walked.called) walked.seals

    pub likewise : IsDrawnLikewise p w' s1' found steps others walked.called
    likewise = record {
      before = h1;
      behind = h2;
      other_steps = walked.other_steps;
      shapes = walked.shapes;
      starts = inside;
      drawn = walked.drawn;
      ends = in_life p w' (reached p w' s1' walked.called) ((walked.along).pair).stays (let l = low_then in omega arith) room walked.seals walked.begun;
      shown = walked.shown;
      given = tape_words p w' (reached p w' s1' walked.called).generation (reached p w' s1' walked.called).drawn;
      begun = (
        sym (ap (λ (x : Public). x.epoch) to_life),
        sym (sym numbers.generation ∙ sym row.generation_then ∙ keep_generation p w s1 calls others steps called called_work match ∙ (a.pair).generation),
        ap (words_hidden p w' (record { generation = s1'.generation; place = 0 })) drawn_1,
        refl,
      );
      public = public_same;
      batches = records_long p w' 0 s1'.log ∙ sym batches;
      notes = walked.notes;
      phases = walked.phases;
    }

    pub behind_is : h2 ≡ likewise.behind
    unfolding likewise
    behind_is = refl

  -- ---- all runs

  module _ {S : Type 0} where
    runs_walk : (e : ℕ) (s s' : LifeState) (k : WordsKept) (parts : List (RunPart S)) (runs : List OtherRun) (acts : List LifeAct) (work : List LifeWork) → Beside e s s' k acts work → RunsMatch {S = S} p w s parts runs acts work → AreRowDrawn p parts → AreOtherRuns p parts runs → AreRunsFit p runs →
        AreDrawnLikewise p w' s' parts runs (acts_of e slots work)
    runs_walk e s s' k [] [] acts work a (is, are) drew like fit = ap (acts_of e slots) are
    runs_walk e s s' k [] (run ∷ runs) acts work a match drew like fit = absurd match
    runs_walk e s s' k (Served most old found opened calls steps behind refused words seen new ∷ parts) [] acts work a match drew like fit = absurd match
    runs_walk e s s' k (Served most old found opened calls steps behind refused words seen new ∷ parts) (run ∷ runs) acts work a (called, left, later, called_work, left_work, later_work, are, is, match, cut, row, row_left, more) drew like fit =
        let a0 : Beside e s s' k (opening_acts s ++ (called ++ (left ++ later))) (opening_work s ++ (called_work ++ (left_work ++ later_work))) =
        subst (λ (xs : List LifeAct). Beside e s s' k xs (opening_work s ++ (called_work ++ (left_work ++ later_work)))) are (subst (λ (xs : List LifeWork). Beside e s s' k acts xs) is a) in
        let a1 = opening_along e s s' k (called ++ (left ++ later)) (called_work ++ (left_work ++ later_work)) a0 in
        let go = walked e s s' k found calls run.calls steps behind called (left ++ later) called_work (left_work ++ later_work) a1 match row drew.0 drew.1 like.0 fit.0 in
        let few = few_then e s s' k found calls run.calls steps behind called (left ++ later) called_work (left_work ++ later_work) a1 match row drew.0 drew.1 like.0 fit.0 in
        let low_now = low_then e s s' k found calls run.calls steps behind called (left ++ later) called_work (left_work ++ later_work) a1 match row drew.0 drew.1 like.0 fit.0 in
        let s2 : LifeState = reached p w (reached p w s (opening_acts s)) called in
        let s2' : LifeState = reached p w' (reached p w' s' (opening_acts s')) go.called in
        let every = all_then e s s' k found calls run.calls steps behind called (left ++ later) called_work (left_work ++ later_work) a1 match row drew.0 drew.1 like.0 fit.0 in
        let q : RingPublic = public_behind ring_kind p (ring_public p found) steps in
        let l = left_walk later later_work go.epoch_then s2 s2' go.words_then q behind words go.seals low_now few go.knows go.at go.begun go.so_far every go.few_seals refused run.refused left left_work cut like.1 fit.1 row_left go.along in
        let rest = runs_walk l.epoch_then (reached p w s2 left) (reached p w' s2' l.acts) l.words_then parts runs later later_work l.along more drew.2 like.2 fit.2 in
        let whole : acts_of e slots work ≡ opening_acts s' ++ (go.called ++ (l.acts ++ acts_of l.epoch_then slots later_work)) =
        ap (acts_of e slots) is ∙ opening_split e s s' (called_work ++ (left_work ++ later_work)) a.pair ∙ ap (λ (xs : List LifeAct). opening_acts s' ++ xs) (go.split ∙ ap (λ (xs : List LifeAct). go.called ++ xs) l.split) in (
          go.called,
          l.acts,
          acts_of l.epoch_then slots later_work,
          whole,
          likewise e s s' k found calls run.calls steps behind called (left ++ later) called_work (left_work ++ later_work) a1 match row drew.0 drew.1 like.0 fit.0,
          subst (λ (x : RingHidden). IsCutLikewise p w' q behind x refused run.refused words l.acts)
              (behind_is e s s' k found calls run.calls steps behind called (left ++ later) called_work (left_work ++ later_work) a1 match row drew.0 drew.1 like.0 fit.0) l.cut,
          rest,
        )
    runs_walk e s s' k (Stopped old new ∷ parts) runs acts work a (first, later, first_work, later_work, are, is, inl (none, empty), more) drew like fit =
        let a0 : Beside e s s' k later later_work =
        subst (λ (xs : List LifeAct). Beside e s s' k xs later_work) (are ∙ ap (λ (xs : List LifeAct). xs ++ later) none) (subst (λ (xs : List LifeWork). Beside e s s' k acts xs) (is ∙ ap (λ (xs : List LifeWork). xs ++ later_work) empty) a) in
        let rest = runs_walk e s s' k parts runs later later_work a0 (subst (λ (xs : List LifeAct). RunsMatch {S = S} p w (reached p w s xs) parts runs later later_work) none more) drew like fit in
        ([], opening_acts s', acts_of e slots later_work, ap (acts_of e slots) (is ∙ ap (λ (xs : List LifeWork). xs ++ later_work) empty), refl, rest)
    runs_walk e s s' k (Stopped old new ∷ parts) runs acts work a (first, later, first_work, later_work, are, is, inr (n, m, many, first_is, first_work_is), more) drew like fit =
        let g : ℕ = suc s.generation in
        let a0 : Beside e s s' k (Open g ∷ (repeated n ++ later)) (Opens g ∷ (shows_again n ++ later_work)) =
        subst (λ (xs : List LifeAct). Beside e s s' k xs (Opens g ∷ (shows_again n ++ later_work))) (are ∙ ap (λ (xs : List LifeAct). xs ++ later) first_is) (subst (λ (xs : List LifeWork). Beside e s s' k acts xs) (is ∙ ap (λ (xs : List LifeWork). xs ++ later_work) first_work_is) a) in
        let a1 = again_along n e (life_step p w s (Open g)) (life_step p w' s' (Open g)) (record k { drawn = 0 }) later later_work (along_open p some w w' slots e s s' k (repeated n ++ later) (shows_again n ++ later_work) g a0) in
        let rest = runs_walk e (reached p w s (Open g ∷ repeated n)) (reached p w' s' (Open g ∷ repeated n)) (record k { drawn = 0 }) parts runs later later_work a1 (subst (λ (xs : List LifeAct). RunsMatch {S = S} p w (reached p w s xs) parts runs later later_work) first_is more) drew like fit in
        let whole : acts_of e slots work ≡ (Open g ∷ repeated n) ++ acts_of e slots later_work =
        ap (acts_of e slots) (is ∙ ap (λ (xs : List LifeWork). xs ++ later_work) first_work_is) ∙ ap (λ (xs : List LifeAct). Open g ∷ xs) (acts_again e slots n later_work) in
        let opens : opening_acts s' ≡ (Open g ∷ repeated n) ++ repeated m =
        sym (opening_same s s' a.pair) ∙ (λ i. Open g ∷ repeated (many i)) ∙ ap (λ (xs : List LifeAct). Open g ∷ xs) (repeated_more n m) in
        (Open g ∷ repeated n, repeated m, acts_of e slots later_work, whole, opens, rest)

-- ---- behind a format

format_stays : (p : Params) (some : 0 < p.dummies) (tape : WordId → ℕ) (slot : ℕ → ℕ → ℕ) → ((u : ℕ) → IsRanking (width p) (slot u)) → Stays p tape (formatted_life slot)
format_stays p some tape slot ranked = record {
  ready = record {
    sound = record { placed = λ k u j e. absurd (cc); alone = λ k k' u j e f. absurd (cc) };
    few = λ u. (let none = none_counted (p.real + p.dummies) in omega (arith, none));
    down = λ u. refl;
    low = λ k. pow_pos p.levels;
    counter = pow_pos p.levels;
    booked = λ k. refl;
    keys = λ k high. refl;
    used = λ u j on. absurd (cc);
    home = λ u. omega arith;
    home_out = λ u high. refl;
    ranked = ranked;
  };
  held = λ k v e. absurd (cc);
  logged = λ b has. absurd has;
  few = omega arith;
  slots = slots_formatted p tape slot some ranked;
}

pub draws_are_deniable : {S : Type 0} (disk : S → Disk) → DrawsAreDeniable disk
draws_are_deniable {S} disk keys p drawn parts tape runs some room given one untied drew like fit =
    let made = runs_matched {S = S} p tape disk keys (1, buckets p * width p) (formatted_life one.slot) parts runs one.acts like one.parts_are in
    let could = runs_are_deniable disk keys p drawn parts tape made.work some given one untied made.shape made.puts in
    let other : WordId → ℕ = words_moved could.ids_back tape in
    let done = could.done in
    let first : VersionSlots = λ v. one.slot in
    let start : Along p some tape other could.slots 0 (formatted_life one.slot) (formatted_life (could.slots 0)) (formatted_words p) one.acts made.work = record {
      pair = record {
        alike = at_first p some tape other first could.slots one.ranked done.ranked;
        homes = λ u. refl;
        generation = refl;
        drawn = refl;
        stays = format_stays p some other (could.slots 0) done.ranked;
      };
      is_life = one.is_life;
      other_life = done.is_life;
      next = (done.turn).behind;
      same = could.same;
    } in (
      made.work,
      runs_work {S = S} p tape (formatted_life one.slot) parts runs one.acts made.work made.is,
      could,
      runs_walk p some room tape other could.slots {S = S} 0 (formatted_life one.slot) (formatted_life (could.slots 0)) (formatted_words p) parts runs one.acts made.work start made.is drew like fit,
    )
