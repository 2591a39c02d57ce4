-- A run's calls are turns of a history.
use Rattle.std.specs.Prelude.{◌≡◌, ◌<◌, ◌≤◌, ℕ, ◌+◌, ◌==◌, ◌||◌, Bool, true, cond, List, [], ◌∷◌, ◌++◌, map, length, take, Option}
use Rattle.std.proofs.Common.{suc, arith, refl, sym, ap, ◌∙◌, subst, add-one, append_assoc, length-append}
use Rattle.std.proofs.lemmas.Bool.{eq-eqb, le-ltb, lt-ltb, or_left, or_right}
use Rattle.std.proofs.lemmas.List.{append-nil}
use Rattle.ob_base.specs.Layout.{EpochTwin}
use Rattle.ob_base.specs.Repeats.{Has}
use Rattle.ob_base.proofs.Repeats.{has_left, has_right}
use Rattle.ob_base.specs.declared.params.Params.{Params}
use Rattle.ob_store.specs.declared.watch.Note.{Note}
use Rattle.ob_schedule.specs.Schedule.{Fills, after_end, after_phase, batch_notes, end_notes, gate_cell}
use Rattle.ob_recover.specs.Life.{WordId, LabelFill, SlotFill, LifeAct, LifeBatch, LifeState, Append, ShowBatch, ShowLifts, End, IsLife, formatted_life, labels_shown, leaf_of_word, life_labels, life_slots, life_step, reached, slots_shown}
use Rattle.ob_recover.specs.LifePublic.{public_in}
use Rattle.ob_recover.proofs.LifeLabels.{planned_lasts, life_planned as label_planned}
use Rattle.ob_fresh.proofs.Publics.{IsOpen, appended, lifted, open_formatted, open_life, public_ended, shown, stays_open}
use Rattle.ob_serial.specs.Vaults as vault
use Rattle.ob_serial.specs.Vaults.{VaultCall}
use Rattle.ob_vault.specs.KindShown.{public_behind, steps_notes}
use Rattle.ob_vault.specs.RingKind.{ring_kind}
use Rattle.ob_vault.specs.Seen.{RingPublic, ring_next, ring_notes}
use Rattle.ob_vault.specs.Shapes.{Shape, Ends, Fetches}
use Rattle.ob_vault.specs.Shown.{AreFilledBy, AreShownBy}
use Rattle.ob_histories.specs.Fills.{AllFills, fills_at, public_in_epoch}
use Rattle.ob_histories.specs.Runs.{HistoryTurn, next_turn, notes_from, notes_of_batch, notes_of_end, notes_of_turn}
use Rattle.ob_histories.proofs.Finding.{epoch_at}
use Rattle.ob_admitted.specs.Fills.{FillsAll}
use Rattle.ob_admitted.specs.Publics.{AreRecordsWhole, IsPublicOfFills}
use Rattle.ob_admitted.specs.Notes.{batch_acts, end_acts}
use Rattle.ob_admitted.specs.Repeats.{phase_of_fills}
use Rattle.ob_admitted.specs.Calls.{AreStepsOf, CallsAreTurns, public_of_life, turn_of_life}
use Rattle.ob_admitted.proofs.Notes.{batch_is, end_is}
use Rattle.ob_admitted.proofs.Publics.{ArePlanned, GoesBy, batches_filled, formatted_goes, goes_along}

module _ (p : Params) (word_of : WordId → ℕ) (f : AllFills) (some : 0 < p.dummies) where
  abbrev pub At : LifeState → Type 0
  At s = IsOpen p word_of s × GoesBy p word_of f s

  abbrev pub AreSlotsFilled : List SlotFill → Type 0
  AreSlotsFilled slots = (x : SlotFill) → Has slots x → f.slot x.bucket x.version x.number ≡ x.slot

  pub public_of : (s : LifeState) → GoesBy p word_of f s → ArePlanned p word_of f s → IsPublicOfFills p word_of f s
  public_of s is planned = record { homes = is.homes; counts = is.counts; counter = is.counter; versions = is.versions; batches = λ b few. batches_filled p word_of f s b few is.whole planned }

  pub earlier : (s : LifeState) (acts : List LifeAct) → ArePlanned p word_of f (reached p word_of s acts) → ArePlanned p word_of f s
  earlier s acts planned l h = planned l (planned_lasts p word_of s acts l h)

  -- ---- a batch

  module _ (s : LifeState) (records : ℕ) (gates : ℕ → Bool) (at : At s) (begun : s.begun ≡ length s.log) (few : records ≤ length s.log) (asks : List (Option ℕ)) (c : Fills) (r : LifeBatch) (rest : List LifeAct)
      (life : IsLife p word_of s (Append r ∷ ShowBatch ∷ rest)) (whole : AreRecordsWhole p (Append r ∷ ShowBatch ∷ rest)) (filled : AreFilledBy p word_of s (batch_acts r) (vault.Fetch asks) c)
      (planned : ArePlanned p word_of f (reached p word_of s (Append r ∷ ShowBatch ∷ rest))) (slots : AreSlotsFilled (life_slots p word_of s (Append r ∷ ShowBatch ∷ rest))) where
    abbrev s1 : LifeState
    s1 = life_step p word_of s (Append r)

    abbrev s2 : LifeState
    s2 = life_step p word_of s1 ShowBatch

    abbrev t : HistoryTurn
    t = turn_of_life p s records gates

    room : length s.log < p.batches
    room = life.0.0

    longer : length (s.log ++ r ∷ []) ≡ suc (length s.log)
    longer = length-append s.log (r ∷ []) ∙ add-one (length s.log)

    both : AreFilledBy p word_of s (batch_acts r) (vault.Fetch asks) c × FillsAll p word_of f (life_labels p word_of s (batch_acts r)) (life_slots p word_of s (batch_acts r))
    both = (
      filled,
      record {
        leaves = λ l h. earlier s2 rest planned l (label_planned p word_of s (batch_acts r) l h);
        slots_are = λ x h. slots x (has_left (slots_shown p word_of s1 ShowBatch) (life_slots p word_of s2 rest) x (subst (λ (xs : List SlotFill). Has xs x) (append-nil (slots_shown p word_of s1 ShowBatch)) h));
      },
    )

    batch_turn : notes_of_turn p f t ≡ batch_notes p (public_in_epoch p f s.epoch (length s.log)) (fills_at p f s.epoch) (length s.log)
    batch_turn =
        ap (λ (b : Bool). cond b (notes_of_batch p f t) (notes_of_end p f t)) (lt-ltb (length s.log) p.batches room)
        ∙ ap (λ (b : Bool). cond b (phase_of_fills p f s.epoch (length s.log)) (batch_notes p (public_in_epoch p f s.epoch (length s.log)) (fills_at p f s.epoch) (length s.log))) (le-ltb (length s.log) records few)

    pub batch_shows : batch_notes p (public_in p word_of s gates) c (length s.log) ≡ notes_of_turn p f t
    batch_shows = batch_is p word_of f s at.0 (public_of s at.1 (earlier s (Append r ∷ ShowBatch ∷ rest) planned)) gates c begun r asks whole.0 both ∙ sym batch_turn

    batch_next : ring_next p (public_of_life p word_of s gates) Fetches c ≡ public_of_life p word_of s2 gates
    batch_next = λ i. record {
      known = sym (shown p word_of s1 gates
          ∙ (λ j. after_phase p (appended p word_of s r gates at.0 life.0 j) ((sym (ap (map (λ (l : LabelFill). leaf_of_word p word_of l.word)) (append-nil (labels_shown p word_of s1 ShowBatch))) ∙ filled.labels) j))) i;
      shown = sym longer i;
    }

    turn_behind_batch : next_turn p t ≡ turn_of_life p s2 records gates
    turn_behind_batch = ap (λ (b : Bool). cond b (record t { batch = suc t.batch }) (record { epoch = suc t.epoch; batch = 0; records = 0; gate = true })) (lt-ltb (length s.log) p.batches room)
        ∙ ap (λ (n : ℕ). record t { batch = n }) (sym longer)

    at_batch : At s2
    at_batch = (
      stays_open p word_of some s1 ShowBatch life.1.0 (stays_open p word_of some s (Append r) life.0 at.0),
      goes_along p word_of f some s (batch_acts r) (life.0, (life.1.0, tt)) tt (whole.0, tt) at.0 at.1 (earlier s2 rest planned),
    )

  -- ---- an end

  module _ (s : LifeState) (records : ℕ) (gates : ℕ → Bool) (at : At s) (begun : s.begun ≡ length s.log) (is_open : gates (gate_cell p EpochTwin s.epoch) ≡ true) (writes : List (ℕ × Option (List ℕ))) (c : Fills)
      (ws : List (ℕ × Option WordId)) (drawn : ℕ) (slot : ℕ → ℕ → ℕ) (rest : List LifeAct)
      (life : IsLife p word_of s (ShowLifts ∷ End ws drawn slot ∷ rest)) (filled : AreFilledBy p word_of s (end_acts ws drawn slot) (vault.End writes) c)
      (planned : ArePlanned p word_of f (reached p word_of s (ShowLifts ∷ End ws drawn slot ∷ rest))) (slots : AreSlotsFilled (life_slots p word_of s (ShowLifts ∷ End ws drawn slot ∷ rest))) where
    abbrev e1 : LifeState
    e1 = life_step p word_of s ShowLifts

    abbrev e2 : LifeState
    e2 = life_step p word_of e1 (End ws drawn slot)

    abbrev u : HistoryTurn
    u = turn_of_life p s records gates

    abbrev gates_then : ℕ → Bool
    gates_then cell = (cell == gate_cell p EpochTwin (s.epoch + 1)) || gates cell

    full : length s.log ≡ p.batches
    full = life.0.0

    high : p.batches ≤ length s.log
    high = omega (arith, full)

    all : p.batches ≤ s.begun + 1
    all = omega (arith, full, begun)

    both_end : AreFilledBy p word_of s (end_acts ws drawn slot) (vault.End writes) c × FillsAll p word_of f (life_labels p word_of s (end_acts ws drawn slot)) (life_slots p word_of s (end_acts ws drawn slot))
    both_end = (
      filled,
      record {
        leaves = λ l h. absurd h;
        slots_are = λ x h. slots x (has_left (slots_shown p word_of s ShowLifts) (life_slots p word_of e2 rest) x (subst (λ (xs : List SlotFill). Has xs x) (append-nil (slots_shown p word_of s ShowLifts)) h));
      },
    )

    end_turn : notes_of_turn p f u ≡ notes_of_end p f u
    end_turn = ap (λ (b : Bool). cond b (notes_of_batch p f u) (notes_of_end p f u)) (le-ltb (length s.log) p.batches high)

    gate_here : end_notes p (record (public_in_epoch p f s.epoch p.batches) { gates = gates }) (fills_at p f s.epoch) ≡ notes_of_end p f u
    gate_here = ap (λ (b : Bool). end_notes p (record (public_in_epoch p f s.epoch p.batches) { gates = λ cell. b }) (fills_at p f s.epoch)) (ap (λ (n : ℕ). gates (gate_cell p EpochTwin (n + 1))) (epoch_at p f s.epoch))

    end_shows : end_notes p (public_in p word_of s gates) c ≡ notes_of_turn p f u
    end_shows = end_is p word_of f s at.0 (public_of s at.1 (earlier s (ShowLifts ∷ End ws drawn slot ∷ rest) planned)) gates c begun ws drawn slot writes full both_end ∙ gate_here ∙ sym end_turn

    end_next : ring_next p (public_of_life p word_of s gates) Ends c ≡ public_of_life p word_of e2 gates_then
    end_next = λ i. record {
      known = sym (public_ended p word_of some e1 (stays_open p word_of some s ShowLifts life.0 at.0) ws drawn slot life.1.0 gates all ∙ ap (after_end p) (lifted p word_of s gates life.0)) i;
      shown = 0;
    }

    gate_then : gates_then (gate_cell p EpochTwin ((s.epoch + 1) + 1)) ≡ true
    gate_then =
        let same : gate_cell p EpochTwin ((s.epoch + 1) + 1) ≡ gate_cell p EpochTwin s.epoch = omega arith in
        or_right (gate_cell p EpochTwin ((s.epoch + 1) + 1) == gate_cell p EpochTwin (s.epoch + 1)) (gates (gate_cell p EpochTwin ((s.epoch + 1) + 1))) (ap gates same ∙ is_open)

    turn_behind_end : next_turn p u ≡ turn_of_life p e2 0 gates_then
    turn_behind_end = ap (λ (b : Bool). cond b (record u { batch = suc u.batch }) (record { epoch = suc u.epoch; batch = 0; records = 0; gate = true })) (le-ltb (length s.log) p.batches high)
        ∙ (λ i. record { epoch = sym (add-one s.epoch) i; batch = 0; records = 0; gate = sym gate_then i })

    open_then : gates_then (gate_cell p EpochTwin (s.epoch + 1)) ≡ true
    open_then = or_left (gate_cell p EpochTwin (s.epoch + 1) == gate_cell p EpochTwin (s.epoch + 1)) (gates (gate_cell p EpochTwin (s.epoch + 1))) (eq-eqb (gate_cell p EpochTwin (s.epoch + 1)) (gate_cell p EpochTwin (s.epoch + 1)) refl)

    at_end : At e2
    at_end = (
      stays_open p word_of some e1 (End ws drawn slot) life.1.0 (stays_open p word_of some s ShowLifts life.0 at.0),
      goes_along p word_of f some s (end_acts ws drawn slot) (life.0, (life.1.0, tt)) (all, tt) tt at.0 at.1 (earlier e2 rest planned),
    )

  -- ---- calls in a row

  -- What follows the calls shows, where the life then is, so many notes of the turn that comes next.
  module _ (Q : LifeState → Type 0) (more : RingPublic → List Note) (count : ℕ) where
    abbrev pub Follows : Type 0
    Follows = (s : LifeState) (records : ℕ) (gates : ℕ → Bool) → At s → s.begun ≡ length s.log → records ≤ length s.log → gates (gate_cell p EpochTwin s.epoch) ≡ true → Q s
        → more (public_of_life p word_of s gates) ≡ take count (notes_of_turn p f (turn_of_life p s records gates))

    abbrev Goes : LifeState → ℕ → (ℕ → Bool) → List VaultCall → List (Shape × Fills) → List LifeAct → Type 0
    Goes s records gates calls steps acts = At s → s.begun ≡ length s.log → records ≤ length s.log → gates (gate_cell p EpochTwin s.epoch) ≡ true → IsLife p word_of s acts → AreRecordsWhole p acts → AreStepsOf calls steps
        → ArePlanned p word_of f (reached p word_of s acts) → AreSlotsFilled (life_slots p word_of s acts) → AreShownBy p word_of s calls steps acts → Q (reached p word_of s acts)
        → steps_notes ring_kind p (public_of_life p word_of s gates) steps ++ more (public_behind ring_kind p (public_of_life p word_of s gates) steps) ≡ notes_from p f (turn_of_life p s records gates) (length steps) count

    abbrev Says : LifeState → ℕ → (ℕ → Bool) → List (Shape × Fills) → Shape → Fills → Type 0
    Says s records gates steps shape c =
        (ring_notes p (public_of_life p word_of s gates) shape c ++ steps_notes ring_kind p (ring_next p (public_of_life p word_of s gates) shape c) steps) ++ more (public_behind ring_kind p (ring_next p (public_of_life p word_of s gates) shape c) steps)
        ≡ notes_from p f (turn_of_life p s records gates) (suc (length steps)) count

    pub calls_go : Follows → (calls : List VaultCall) (steps : List (Shape × Fills)) (s : LifeState) (records : ℕ) (gates : ℕ → Bool) (acts : List LifeAct) → Goes s records gates calls steps acts
    calls_go k [] [] s records gates acts at begun few is_open life whole steps_are planned slots show last =
        k s records gates at begun few is_open (subst (λ (xs : List LifeAct). Q (reached p word_of s xs)) show last)
    calls_go k [] (step ∷ steps) s records gates acts at begun few is_open life whole steps_are planned slots show last = absurd steps_are
    calls_go k (call ∷ calls) [] s records gates acts at begun few is_open life whole steps_are planned slots show last = absurd steps_are
    calls_go k (vault.Fetch asks ∷ calls) (step ∷ steps) s records gates acts at begun few is_open life whole steps_are planned slots show last =
        let r : LifeBatch = show.3.0 in
        let rest : List LifeAct = show.1 in
        let c : Fills = step.1 in
        let are : acts ≡ Append r ∷ ShowBatch ∷ rest = show.2 ∙ ap (λ (xs : List LifeAct). xs ++ rest) show.3.2 in
        let life_then = subst (λ (xs : List LifeAct). IsLife p word_of s xs) are life in
        let whole_then = subst (λ (xs : List LifeAct). AreRecordsWhole p xs) are whole in
        let planned_then = subst (λ (xs : List LifeAct). ArePlanned p word_of f (reached p word_of s xs)) are planned in
        let slots_then = subst (λ (xs : List LifeAct). AreSlotsFilled (life_slots p word_of s xs)) are slots in
        let last_then = subst (λ (xs : List LifeAct). Q (reached p word_of s xs)) are last in
        let filled = subst (λ (xs : List LifeAct). AreFilledBy p word_of s xs (vault.Fetch asks) c) show.3.2 show.4 in
        let behind = subst (λ (xs : List LifeAct). AreShownBy p word_of (reached p word_of s xs) calls steps rest) show.3.2 show.5 in
        let s2 : LifeState = life_step p word_of (life_step p word_of s (Append r)) ShowBatch in
        let longer = length-append s.log (r ∷ []) in
        let later = calls_go k calls steps s2 records gates rest (at_batch s records gates at begun few asks c r rest life_then whole_then filled planned_then slots_then) (omega (arith, begun, longer)) (omega (arith, few, longer)) is_open
        life_then.1.1 whole_then.1 steps_are.1 planned_then (λ x h. slots_then x (has_right (slots_shown p word_of (life_step p word_of s (Append r)) ShowBatch) (life_slots p word_of s2 rest) x h)) behind last_then in
        subst (λ (shape : Shape). Says s records gates steps shape c)
        (sym steps_are.0)
        (append_assoc (ring_notes p (public_of_life p word_of s gates) Fetches c) (steps_notes ring_kind p (ring_next p (public_of_life p word_of s gates) Fetches c) steps) (more (public_behind ring_kind p (ring_next p (public_of_life p word_of s gates) Fetches c) steps))
        ∙ (λ i. batch_shows s records gates at begun few asks c r rest life_then whole_then filled planned_then slots_then i
        ++ (ap (λ (q : RingPublic). steps_notes ring_kind p q steps ++ more (public_behind ring_kind p q steps)) (batch_next s records gates at begun few asks c r rest life_then whole_then filled planned_then slots_then) ∙ later
        ∙ ap (λ (t : HistoryTurn). notes_from p f t (length steps) count) (sym (turn_behind_batch s records gates at begun few asks c r rest life_then whole_then filled planned_then slots_then))) i))
    calls_go k (vault.End writes ∷ calls) (step ∷ steps) s records gates acts at begun few is_open life whole steps_are planned slots show last =
        let ws = show.3.0 in
        let drawn : ℕ = show.3.1 in
        let slot = show.3.2 in
        let rest : List LifeAct = show.1 in
        let c : Fills = step.1 in
        let are : acts ≡ ShowLifts ∷ End ws drawn slot ∷ rest = show.2 ∙ ap (λ (xs : List LifeAct). xs ++ rest) show.3.3 in
        let life_then = subst (λ (xs : List LifeAct). IsLife p word_of s xs) are life in
        let whole_then = subst (λ (xs : List LifeAct). AreRecordsWhole p xs) are whole in
        let planned_then = subst (λ (xs : List LifeAct). ArePlanned p word_of f (reached p word_of s xs)) are planned in
        let slots_then = subst (λ (xs : List LifeAct). AreSlotsFilled (life_slots p word_of s xs)) are slots in
        let last_then = subst (λ (xs : List LifeAct). Q (reached p word_of s xs)) are last in
        let filled = subst (λ (xs : List LifeAct). AreFilledBy p word_of s xs (vault.End writes) c) show.3.3 show.4 in
        let behind = subst (λ (xs : List LifeAct). AreShownBy p word_of (reached p word_of s xs) calls steps rest) show.3.3 show.5 in
        let e2 : LifeState = life_step p word_of (life_step p word_of s ShowLifts) (End ws drawn slot) in
        let later = calls_go k calls steps e2 0 (λ cell. (cell == gate_cell p EpochTwin (s.epoch + 1)) || gates cell) rest (at_end s records gates at begun is_open writes c ws drawn slot rest life_then filled planned_then slots_then) refl (omega arith)
        (open_then s records gates at begun is_open writes c ws drawn slot rest life_then filled planned_then slots_then)
        life_then.1.1 whole_then steps_are.1 planned_then (λ x h. slots_then x (has_right (slots_shown p word_of s ShowLifts) (life_slots p word_of e2 rest) x h)) behind last_then in
        subst (λ (shape : Shape). Says s records gates steps shape c)
        (sym steps_are.0)
        (append_assoc (ring_notes p (public_of_life p word_of s gates) Ends c) (steps_notes ring_kind p (ring_next p (public_of_life p word_of s gates) Ends c) steps) (more (public_behind ring_kind p (ring_next p (public_of_life p word_of s gates) Ends c) steps))
        ∙ (λ i. end_shows s records gates at begun is_open writes c ws drawn slot rest life_then filled planned_then slots_then i
        ++ (ap (λ (q : RingPublic). steps_notes ring_kind p q steps ++ more (public_behind ring_kind p q steps)) (end_next s records gates at begun is_open writes c ws drawn slot rest life_then filled planned_then slots_then) ∙ later
        ∙ ap (λ (t : HistoryTurn). notes_from p f t (length steps) count) (sym (turn_behind_end s records gates at begun is_open writes c ws drawn slot rest life_then filled planned_then slots_then))) i))

  -- and nothing behind them
  pub calls_show : (calls : List VaultCall) (steps : List (Shape × Fills)) (s : LifeState) (records : ℕ) (gates : ℕ → Bool) (acts : List LifeAct) → At s → s.begun ≡ length s.log → records ≤ length s.log
      → gates (gate_cell p EpochTwin s.epoch) ≡ true → IsLife p word_of s acts → AreRecordsWhole p acts → AreStepsOf calls steps → ArePlanned p word_of f (reached p word_of s acts) → AreSlotsFilled (life_slots p word_of s acts)
      → AreShownBy p word_of s calls steps acts → steps_notes ring_kind p (public_of_life p word_of s gates) steps ≡ notes_from p f (turn_of_life p s records gates) (length steps) 0
  calls_show calls steps s records gates acts at begun few is_open life whole steps_are planned slots show =
      sym (append-nil (steps_notes ring_kind p (public_of_life p word_of s gates) steps))
      ∙ calls_go (λ x. Unit {0}) (λ q. []) 0 (λ t n g at' begun' few' is_open' q. refl) calls steps s records gates acts at begun few is_open life whole steps_are planned slots show tt

pub calls_are_turns : CallsAreTurns
calls_are_turns p word_of slot before f ranked life ends whole filled records gates calls steps acts begun few is_open goes_on all_whole steps_are show fills =
    let some : 0 < p.dummies = (let one = p.in_range.some_dummies in omega (arith, one)) in
    let s : LifeState = reached p word_of (formatted_life slot) before in
    let inv : IsOpen p word_of s = open_life p word_of some (formatted_life slot) before life (open_formatted p word_of some slot ranked) in
    let goes : GoesBy p word_of f s = goes_along p word_of f some (formatted_life slot) before life ends whole (open_formatted p word_of some slot ranked) (formatted_goes p word_of f slot) filled.leaves in
    calls_show p word_of f some calls steps s records gates acts (inv, goes) begun few is_open goes_on all_whole steps_are fills.leaves fills.slots_are show
