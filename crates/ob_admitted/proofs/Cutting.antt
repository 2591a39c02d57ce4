-- A run that was cut off shows a history's.
use Rattle.std.specs.Prelude.{◌≡◌, ◌<◌, ◌≤◌, ℕ, ◌+◌, ◌%◌, Bool, false, cond, map, List, [], ◌∷◌, ◌++◌, take, length, Option}
use Rattle.std.proofs.Common.{suc, arith, sym, ap, ◌∙◌, subst, length-append}
use Rattle.std.proofs.lemmas.Bool.{le-ltb, lt-ltb}
use Rattle.std.proofs.lemmas.List.{length-map, length-take-le, take-append-le, take_all}
use Rattle.ob_base.specs.Layout.{EpochTwin, log_cell, record_cells}
use Rattle.ob_base.specs.Tree.{below, width}
use Rattle.ob_base.specs.declared.params.Params.{Params}
use Rattle.ob_store.specs.declared.watch.Note.{Note}
use Rattle.ob_store.specs.declared.watch.Note.TheVariants.{Sync, Write}
use Rattle.ob_schedule.specs.Schedule.{Fills, batch_leaves, batch_notes, end_notes, gate_cell, phase_notes, record_notes, writes_of}
use Rattle.ob_tables.specs.Rank.{IsRanking}
use Rattle.ob_recover.specs.Life.{WordId, LifeAct, LifeBatch, LifeState, ShowLifts, IsLife, formatted_life, life_slots, planned_labels, reached}
use Rattle.ob_fresh.specs.PublicLives.{AreEndsShown}
use Rattle.ob_recover.specs.LifePublic.{public_in}
use Rattle.ob_serial.specs.Vaults as vault
use Rattle.ob_serial.specs.Vaults.{VaultCall}
use Rattle.ob_vault.specs.Shapes.{Fetches, Shape, shape_of}
use Rattle.ob_vault.specs.Seen.{RingPublic, ring_notes}
use Rattle.ob_vault.specs.Shown.{AreFilledBy}
use Rattle.ob_histories.specs.Fills.{AllFills, fills_at, public_in_epoch}
use Rattle.ob_histories.specs.Runs.{first_turn, notes_from, notes_of_batch, notes_of_end, notes_of_turn, opening_step, run_notes}
use Rattle.ob_histories.proofs.Finding.{epoch_at}
use Rattle.ob_admitted.specs.Between.{turn_of_run}
use Rattle.ob_admitted.specs.Calls.{public_of_life, turn_of_life}
use Rattle.ob_admitted.specs.Cuts.{CutOpeningsShowHistories, CutRunsShowHistories, IsCutFilled, life_behind_calls, public_of_calls}
use Rattle.ob_admitted.specs.Fills.{FillsAll}
use Rattle.ob_admitted.specs.Publics.{AreRecordsWhole}
use Rattle.ob_admitted.specs.Repeats.{phase_of_fills}
use Rattle.ob_admitted.specs.Served.{IsRecordAlone}
use Rattle.ob_admitted.specs.Wholes.{AreGatesKept, IsRunFilled, found_of_life, notes_of_run, run_of_life}
use Rattle.ob_admitted.proofs.Betweens.{turns_many}
use Rattle.ob_admitted.proofs.Calling.{AreSlotsFilled, At, Follows, batch_shows, earlier, public_of}
use Rattle.ob_admitted.proofs.Fronts.{fronts_are}
use Rattle.ob_admitted.proofs.Notes.{end_is}
use Rattle.ob_admitted.proofs.Publics.{ArePlanned}
use Rattle.ob_admitted.proofs.Wholes.{runs_go, runs_show}

module _ (p : Params) (word_of : WordId → ℕ) (f : AllFills) (some : 0 < p.dummies) (s : LifeState) (records : ℕ) (gates : ℕ → Bool) (at : At p word_of f some s) (begun : s.begun ≡ length s.log) (d : Fills) where
  -- the row of an end that is begun, of which the lifts are shown
  end_row : (writes : List (ℕ × Option (List ℕ))) → IsLife p word_of s (ShowLifts ∷ []) → AreFilledBy p word_of s (ShowLifts ∷ []) (vault.End writes) d → ArePlanned p word_of f (reached p word_of s (ShowLifts ∷ []))
      → AreSlotsFilled p word_of f some (life_slots p word_of s (ShowLifts ∷ [])) → end_notes p (public_in p word_of s gates) d ≡ notes_of_turn p f (turn_of_life p s records gates)
  end_row writes life filled planned slots =
      let full : length s.log ≡ p.batches = life.0.0 in
      let shows : end_notes p (public_in p word_of s gates) d ≡ end_notes p (record (public_in_epoch p f s.epoch p.batches) { gates = gates }) (fills_at p f s.epoch) =
      end_is p word_of f s at.0 (public_of p word_of f some s at.1 (earlier p word_of f some s (ShowLifts ∷ []) planned)) gates d begun [] 0 (λ u i. 0) writes full (record { labels = filled.labels; slots = filled.slots }, record { leaves = λ l h. absurd h; slots_are = slots }) in
      let gate : end_notes p (record (public_in_epoch p f s.epoch p.batches) { gates = gates }) (fills_at p f s.epoch) ≡ notes_of_end p f (turn_of_life p s records gates) =
      ap (λ (b : Bool). end_notes p (record (public_in_epoch p f s.epoch p.batches) { gates = λ cell. b }) (fills_at p f s.epoch)) (ap (λ (n : ℕ). gates (gate_cell p EpochTwin (n + 1))) (epoch_at p f s.epoch)) in
      let turn : notes_of_turn p f (turn_of_life p s records gates) ≡ notes_of_end p f (turn_of_life p s records gates) =
      ap (λ (b : Bool). cond b (notes_of_batch p f (turn_of_life p s records gates)) (notes_of_end p f (turn_of_life p s records gates))) (le-ltb (length s.log) p.batches (omega (arith, full))) in
      shows ∙ gate ∙ sym turn

  cut_row : (few : records ≤ length s.log) (call : VaultCall) → IsCutFilled p word_of f s call d → ring_notes p (public_of_life p word_of s gates) (shape_of call) d ≡ notes_of_turn p f (turn_of_life p s records gates)
  cut_row few (vault.Fetch asks) is =
      let r : LifeBatch = is.cut.shows.0 in
      let are = is.cut.shows.2 in
      batch_shows p word_of f some s records gates at begun few asks d r [] (subst (λ (xs : List LifeAct). IsLife p word_of s xs) are is.cut.is_life) (subst (λ (xs : List LifeAct). AreRecordsWhole p xs) are is.whole)
      (subst (λ (xs : List LifeAct). AreFilledBy p word_of s xs (vault.Fetch asks) d) are is.cut.filled)
      (subst (λ (xs : List LifeAct). ArePlanned p word_of f (reached p word_of s xs)) are is.fills.leaves) (subst (λ (xs : List LifeAct). AreSlotsFilled p word_of f some (life_slots p word_of s xs)) are is.fills.slots_are)
  cut_row few (vault.End writes) is =
      let are : is.cut.acts ≡ ShowLifts ∷ [] = is.cut.shows in
      end_row writes (subst (λ (xs : List LifeAct). IsLife p word_of s xs) are is.cut.is_life) (subst (λ (xs : List LifeAct). AreFilledBy p word_of s xs (vault.End writes) d) are is.cut.filled)
      (subst (λ (xs : List LifeAct). ArePlanned p word_of f (reached p word_of s xs)) are is.fills.leaves) (subst (λ (xs : List LifeAct). AreSlotsFilled p word_of f some (life_slots p word_of s xs)) are is.fills.slots_are)

pub cut_runs_show : CutRunsShowHistories
cut_runs_show p word_of slot before f ranked life ends whole filled c found gates calls steps acts kept is call d count cut =
    let some : 0 < p.dummies = (let one = p.in_range.some_dummies in omega (arith, one)) in
    let follows : Follows p word_of f some (λ t. IsCutFilled p word_of f t call d) (λ (q : RingPublic). take count (ring_notes p q (shape_of call) d)) count =
    (λ t records g at begun few is_open last. ap (λ (ns : List Note). take count ns) (cut_row p word_of f some t records g at begun d few call last)) in
    runs_go p word_of slot before f some (λ t. IsCutFilled p word_of f t call d) (λ (q : RingPublic). take count (ring_notes p q (shape_of call) d)) count follows ranked life ends whole filled c found gates calls steps acts kept is cut

pub cut_openings_show : CutOpeningsShowHistories
cut_openings_show p word_of slot before f ranked life ends whole filled c found gates count kept is =
    let s : LifeState = reached p word_of (formatted_life slot) before in
    let front = fronts_are p f false (found_of_life p s found) (suc (length s.log + 0)) count in
    (front.run, (front.has, front.finds, ap (λ (ns : List Note). take count ns) (runs_show p word_of slot before f ranked life ends whole filled c found gates [] [] [] kept is) ∙ sym front.shows))

-- ---- a record alone

-- a record has as many notes in either area
pub record_many : (p : Params) (area b : ℕ) → length (record_notes p area b) ≡ length (below (record_cells p)) + 3
record_many p area b =
    let cells : List ℕ = map (log_cell p area b) (below (record_cells p)) in
    length-append (writes_of cells) (Sync ∷ Write (log_cell p area b (record_cells p)) ∷ Sync ∷ [])
    ∙ ap (λ (n : ℕ). n + 3) (length-map cells (λ c. Write c) ∙ length-map (below (record_cells p)) (log_cell p area b))

module _ (p : Params) (word_of : WordId → ℕ) (f : AllFills) (s : LifeState) (records count : ℕ) (gates : ℕ → Bool) (few : records ≤ length s.log) (low : length s.log < p.batches) (d : Fills) where
  abbrev e : ℕ
  e = (public_in_epoch p f s.epoch (length s.log)).epoch

  abbrev row_at : ℕ → List Note
  row_at epoch = record_notes p ((epoch + 1) % 2) (length s.log)

  turn_is : notes_of_turn p f (turn_of_life p s records gates) ≡ row_at e ++ phase_of_fills p f s.epoch (length s.log)
  turn_is =
      ap (λ (b : Bool). cond b (notes_of_batch p f (turn_of_life p s records gates)) (notes_of_end p f (turn_of_life p s records gates))) (lt-ltb (length s.log) p.batches low)
      ∙ ap (λ (b : Bool). cond b (phase_of_fills p f s.epoch (length s.log)) (batch_notes p (public_in_epoch p f s.epoch (length s.log)) (fills_at p f s.epoch) (length s.log))) (le-ltb (length s.log) records few)

  record_row : count ≤ length (record_notes p 0 (length s.log)) → take count (ring_notes p (public_of_life p word_of s gates) Fetches d) ≡ take count (notes_of_turn p f (turn_of_life p s records gates))
  record_row short =
      let many : (epoch : ℕ) → count ≤ length (row_at epoch) = λ epoch. (let one = record_many p 0 (length s.log) in let two = record_many p ((epoch + 1) % 2) (length s.log) in omega (arith, short, one, two)) in
      take-append-le count (row_at s.epoch) (phase_notes p (public_in p word_of s gates) d (batch_leaves p d (length s.log))) (many s.epoch)
      ∙ ap (λ (epoch : ℕ). take count (row_at epoch)) (sym (epoch_at p f s.epoch))
      ∙ sym (take-append-le count (row_at e) (phase_of_fills p f s.epoch (length s.log)) (many e))
      ∙ ap (λ (ns : List Note). take count ns) (sym turn_is)

pub records_show : (p : Params) (word_of : WordId → ℕ) (slot : ℕ → ℕ → ℕ) (before : List LifeAct) (f : AllFills) → ((u : ℕ) → IsRanking (width p) (slot u)) → IsLife p word_of (formatted_life slot) before
    → AreEndsShown p word_of (formatted_life slot) before → AreRecordsWhole p before → FillsAll p word_of f (planned_labels p word_of (reached p word_of (formatted_life slot) before)) []
    → (c : Fills) (found gates : ℕ → Bool) (calls : List VaultCall) (steps : List (Shape × Fills)) (acts : List LifeAct) → AreGatesKept p (reached p word_of (formatted_life slot) before).epoch found gates
    → IsRunFilled p word_of f (reached p word_of (formatted_life slot) before) c calls steps acts
    → (asks : List (Option ℕ)) (d : Fills) (count : ℕ) → IsRecordAlone p (life_behind_calls p word_of (reached p word_of (formatted_life slot) before) acts) (vault.Fetch asks) count
    → notes_of_run p word_of (reached p word_of (formatted_life slot) before) c found gates steps
    ++ take count (ring_notes p (public_of_calls p word_of (reached p word_of (formatted_life slot) before) gates steps) Fetches d)
    ≡ run_notes p f (record (run_of_life p (reached p word_of (formatted_life slot) before) found steps) { shown = count })
records_show p word_of slot before f ranked life ends whole filled c found gates calls steps acts kept is asks d count alone =
    let some : 0 < p.dummies = (let one = p.in_range.some_dummies in omega (arith, one)) in
    let follows : Follows p word_of f some (λ t. IsRecordAlone p t (vault.Fetch asks) count) (λ (q : RingPublic). take count (ring_notes p q Fetches d)) count =
    (λ t records g at begun few is_open last. record_row p word_of f t records count g few last.0 d last.1) in
    runs_go p word_of slot before f some (λ t. IsRecordAlone p t (vault.Fetch asks) count) (λ (q : RingPublic). take count (ring_notes p q Fetches d)) count follows ranked life ends whole filled c found gates calls steps acts kept is alone

-- ---- how many notes

-- a call that was refused has as many as the turn that comes behind those that were answered
pub rows_many : (p : Params) (word_of : WordId → ℕ) (slot : ℕ → ℕ → ℕ) (before : List LifeAct) (f : AllFills) → ((u : ℕ) → IsRanking (width p) (slot u)) → IsLife p word_of (formatted_life slot) before
    → AreEndsShown p word_of (formatted_life slot) before → AreRecordsWhole p before → FillsAll p word_of f (planned_labels p word_of (reached p word_of (formatted_life slot) before)) []
    → (c : Fills) (found gates : ℕ → Bool) (calls : List VaultCall) (steps : List (Shape × Fills)) (acts : List LifeAct) → AreGatesKept p (reached p word_of (formatted_life slot) before).epoch found gates
    → IsRunFilled p word_of f (reached p word_of (formatted_life slot) before) c calls steps acts
    → (call : VaultCall) (d : Fills) → IsCutFilled p word_of f (life_behind_calls p word_of (reached p word_of (formatted_life slot) before) acts) call d
    → length (ring_notes p (public_of_calls p word_of (reached p word_of (formatted_life slot) before) gates steps) (shape_of call) d) ≡ length (notes_of_turn p f (turn_of_run p (reached p word_of (formatted_life slot) before) found steps))
rows_many p word_of slot before f ranked life ends whole filled c found gates calls steps acts kept is call d cut =
    let s : LifeState = reached p word_of (formatted_life slot) before in
    let row : List Note = ring_notes p (public_of_calls p word_of s gates steps) (shape_of call) d in
    let turn : List Note = notes_of_turn p f (turn_of_run p s found steps) in
    let run : List Note = notes_of_run p word_of s c found gates steps in
    let opened : List Note = opening_step p f false (found_of_life p s found) in
    let shown : ℕ → List Note = (λ k. notes_from p f (first_turn (found_of_life p s found)) (length s.log + length steps) k) in
    let same : (k : ℕ) → length run + length (take k row) ≡ length opened + length (shown k) =
    (λ k. sym (length-append run (take k row)) ∙ ap (λ (ns : List Note). length ns) (cut_runs_show p word_of slot before f ranked life ends whole filled c found gates calls steps acts kept is call d k cut) ∙ length-append opened (shown k)) in
    let many : ℕ = length row + length turn in
    let all = same many in
    let none = same 0 in
    let turned = turns_many p f (first_turn (found_of_life p s found)) (length s.log + length steps) many in
    let row_all : length (take many row) ≡ length row = ap (λ (ns : List Note). length ns) (take_all many row (omega arith)) in
    let turn_all : length (take many turn) ≡ length turn = ap (λ (ns : List Note). length ns) (take_all many turn (omega arith)) in
    let row_none : length (take 0 row) ≡ 0 = length-take-le 0 row (omega arith) in
    omega (arith, all, none, turned, row_all, turn_all, row_none)
