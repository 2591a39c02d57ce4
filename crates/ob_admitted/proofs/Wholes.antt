-- A whole run of a life is a run of a history.
use Rattle.std.specs.Prelude.{◌≡◌, ◌<◌, ◌≤◌, ℕ, ◌+◌, Bool, true, false, cond, List, [], ◌++◌, length}
use Rattle.std.specs.List.{flat_map, range_with_len}
use Rattle.std.proofs.Common.{zero, suc, arith, refl, sym, ap, ◌∙◌, add-one, append_assoc}
use Rattle.std.proofs.lemmas.Bool.{lt-ltb}
use Rattle.std.proofs.lemmas.List.{append-nil}
use Rattle.ob_base.specs.Layout.{EpochTwin}
use Rattle.ob_base.specs.Tree.{below, width}
use Rattle.ob_base.specs.declared.params.Params.{Params}
use Rattle.ob_store.specs.declared.watch.Note.{Note}
use Rattle.ob_tables.specs.Rank.{IsRanking}
use Rattle.ob_schedule.specs.Schedule.{Fills, batch_notes, before_repeats, gate_cell, head_notes, open_notes, repeats, begun_public}
use Rattle.ob_recover.specs.Calls.{repeated}
use Rattle.ob_recover.specs.Life.{WordId, LifeAct, LifeState, IsLife, Open, ShowBatch, formatted_life, life_step, planned_labels, reached}
use Rattle.ob_recover.specs.LifePublic.{public_in}
use Rattle.ob_recover.proofs.LifeLabels.{planned_lasts}
use Rattle.ob_fresh.specs.PublicLives.{AreEndsShown}
use Rattle.ob_fresh.proofs.Publics.{IsOpen, open_formatted, open_life}
use Rattle.ob_serial.specs.Vaults.{VaultCall}
use Rattle.ob_vault.specs.KindShown.{steps_notes}
use Rattle.ob_vault.specs.RingKind.{ring_kind}
use Rattle.ob_vault.specs.Seen.{RingPublic}
use Rattle.ob_vault.specs.Shapes.{Shape}
use Rattle.ob_vault.proofs.OpenedRun.{IsFurther, further}
use Rattle.ob_histories.specs.Fills.{AllFills, fills_at, public_at, public_in_epoch}
use Rattle.ob_histories.specs.Runs.{HistoryTurn, RunFound, first_turn, next_turn, notes_from, notes_of_batch, notes_of_end, notes_of_turn, opening_step, run_notes}
use Rattle.ob_histories.proofs.Finding.{epoch_at}
use Rattle.ob_admitted.specs.Calls.{public_of_life, turn_of_life}
use Rattle.ob_admitted.specs.Cuts.{public_of_calls, life_behind_calls}
use Rattle.ob_admitted.specs.Fills.{FillsAll}
use Rattle.ob_admitted.specs.Publics.{AreRecordsWhole}
use Rattle.ob_admitted.specs.Repeats.{begin_acts, phase_of_fills}
use Rattle.ob_admitted.specs.Wholes.{AreGatesKept, IsRunFilled, RunsShowHistories, found_of_life, notes_of_run, run_of_life}
use Rattle.ob_admitted.proofs.Calling.{Follows, calls_go}
use Rattle.ob_admitted.proofs.Publics.{ArePlanned, GoesBy, formatted_goes, goes_along}
use Rattle.ob_admitted.proofs.Repeating.{openings_go}

module _ (p : Params) (f : AllFills) (e records : ℕ) (gate : Bool) where
  -- at a batch of the epoch, of which these are repeated
  abbrev pub turn_at : ℕ → HistoryTurn
  turn_at b = record { epoch = e; batch = b; records = records; gate = gate }

  turn_repeats : (b : ℕ) → b < records → b < p.batches → notes_of_turn p f (turn_at b) ≡ phase_of_fills p f e b
  turn_repeats b few low =
      ap (λ (c : Bool). cond c (notes_of_batch p f (turn_at b)) (notes_of_end p f (turn_at b))) (lt-ltb b p.batches low)
      ∙ ap (λ (c : Bool). cond c (phase_of_fills p f e b) (batch_notes p (public_in_epoch p f e b) (fills_at p f e) b)) (lt-ltb b records few)

  pub turn_next : (b : ℕ) → b < p.batches → next_turn p (turn_at b) ≡ turn_at (b + 1)
  turn_next b low = ap (λ (c : Bool). cond c (turn_at (suc b)) (record { epoch = suc e; batch = 0; records = 0; gate = true })) (lt-ltb b p.batches low) ∙ ap turn_at (sym (add-one b))

  turns_repeat : (shown n b m : ℕ) → b + n ≤ records → records ≤ p.batches → notes_from p f (turn_at b) (n + m) shown ≡ flat_map (phase_of_fills p f e) (range_with_len b n) ++ notes_from p f (turn_at (b + n)) m shown
  turns_repeat shown zero b m few low = (let none : zero + m ≡ m = omega arith in let same : b ≡ b + zero = omega arith in λ i. notes_from p f (turn_at (same i)) (none i) shown)
  turns_repeat shown (suc n) b m few low =
      let more : suc n + m ≡ suc (n + m) = omega arith in
      let same : (b + 1) + n ≡ b + suc n = omega arith in
      ap (λ (k : ℕ). notes_from p f (turn_at b) k shown) more
      ∙ (λ i. turn_repeats b (omega (arith, few)) (omega (arith, few, low)) i ++ (ap (λ (t : HistoryTurn). notes_from p f t (n + m) shown) (turn_next b (omega (arith, few, low))) ∙ turns_repeat shown n (b + 1) m (omega (arith, few)) low) i)
      ∙ sym (append_assoc (phase_of_fills p f e b) (flat_map (phase_of_fills p f e) (range_with_len (b + 1) n)) (notes_from p f (turn_at ((b + 1) + n)) m shown))
      ∙ ap (λ (k : ℕ). (phase_of_fills p f e b ++ flat_map (phase_of_fills p f e) (range_with_len (b + 1) n)) ++ notes_from p f (turn_at k) m shown) same

module _ (p : Params) (word_of : WordId → ℕ) where
  pub repeats_ended : (s : LifeState) (n : ℕ) → AreEndsShown p word_of s (repeated n)
  repeats_ended s zero = tt
  repeats_ended s (suc n) = repeats_ended (life_step p word_of s ShowBatch) n

  pub repeats_whole : (n : ℕ) → AreRecordsWhole p (repeated n)
  repeats_whole zero = tt
  repeats_whole (suc n) = repeats_whole n

-- behind the calls, what follows them
pub runs_go : (p : Params) (word_of : WordId → ℕ) (slot : ℕ → ℕ → ℕ) (before : List LifeAct) (f : AllFills) (some : 0 < p.dummies) (Q : LifeState → Type 0) (more : RingPublic → List Note) (count : ℕ) → Follows p word_of f some Q more count
    → ((u : ℕ) → IsRanking (width p) (slot u)) → IsLife p word_of (formatted_life slot) before → AreEndsShown p word_of (formatted_life slot) before → AreRecordsWhole p before
    → FillsAll p word_of f (planned_labels p word_of (reached p word_of (formatted_life slot) before)) []
    → (c : Fills) (found gates : ℕ → Bool) (calls : List VaultCall) (steps : List (Shape × Fills)) (acts : List LifeAct) → AreGatesKept p (reached p word_of (formatted_life slot) before).epoch found gates
    → IsRunFilled p word_of f (reached p word_of (formatted_life slot) before) c calls steps acts
    → Q (life_behind_calls p word_of (reached p word_of (formatted_life slot) before) acts)
    → notes_of_run p word_of (reached p word_of (formatted_life slot) before) c found gates steps ++ more (public_of_calls p word_of (reached p word_of (formatted_life slot) before) gates steps)
    ≡ run_notes p f (record (run_of_life p (reached p word_of (formatted_life slot) before) found steps) { shown = count })
runs_go p word_of slot before f some Q more count k ranked life ends whole filled c found gates calls steps acts kept is last =
    let s : LifeState = reached p word_of (formatted_life slot) before in
    let n : ℕ = length s.log in
    let g : ℕ = suc s.generation in
    let t : LifeState = reached p word_of s (begin_acts s g) in
    let on : IsFurther (life_step p word_of s (Open g)) t n = further p word_of (life_step p word_of s (Open g)) n in
    let inv : IsOpen p word_of s = open_life p word_of some (formatted_life slot) before life (open_formatted p word_of some slot ranked) in
    let goes : GoesBy p word_of f s = goes_along p word_of f some (formatted_life slot) before life ends whole (open_formatted p word_of some slot ranked) (formatted_goes p word_of f slot) filled.leaves in
    let planned_then : ArePlanned p word_of f t = (λ l h. is.fills.leaves l (planned_lasts p word_of t acts l h)) in
    let inv_then : IsOpen p word_of t = open_life p word_of some s (begin_acts s g) is.begins inv in
    let goes_then : GoesBy p word_of f t =
    goes_along p word_of f some s (begin_acts s g) is.begins (repeats_ended p word_of (life_step p word_of s (Open g)) n) (repeats_whole p word_of n) inv goes planned_then in
    let x : RunFound = found_of_life p s found in
    let opening : before_repeats p (public_in p word_of s gates) found g ≡ before_repeats p (public_at p f s.epoch) (λ cell. x.generation_gate) g =
    ap (λ (e : ℕ). before_repeats p (record (public_at p f s.epoch) { epoch = e }) (λ cell. x.generation_gate) g) (sym (epoch_at p f s.epoch)) in
    let again : repeats p (begun_public found (public_in p word_of s gates)) c 0 n ≡ flat_map (phase_of_fills p f s.epoch) (below n) =
    openings_go p word_of slot before f ranked life ends whole filled g c gates found is.opening is.opening_slots in
    let many : length t.log ≡ n = ap length on.log in
    let begun : t.begun ≡ length t.log = (let so = on.begun in omega (arith, so, many)) in
    let after_calls : List Note = more (public_of_calls p word_of s gates steps) in
    let served : steps_notes ring_kind p (public_of_life p word_of t gates) steps ++ after_calls ≡ notes_from p f (turn_of_life p t n gates) (length steps) count =
    calls_go p word_of f some Q more count k calls steps t n gates acts (inv_then, goes_then) begun (omega (arith, many)) (ap (λ (e : ℕ). gates (gate_cell p EpochTwin e)) on.epoch ∙ kept.durable) is.life is.whole is.steps_are is.fills.leaves is.fills.slots_are is.shown last in
    let there : turn_of_life p t n gates ≡ turn_at p f s.epoch n x.epoch_gate n = (λ i. record {
      epoch = on.epoch i;
      batch = many i;
      records = n;
      gate = (ap (λ (e : ℕ). gates (gate_cell p EpochTwin (e + 1))) on.epoch ∙ kept.next) i;
    }) in
    let same : 0 + n ≡ n = omega arith in
    let turns : notes_from p f (first_turn x) (n + length steps) count ≡ flat_map (phase_of_fills p f s.epoch) (below n) ++ notes_from p f (turn_at p f s.epoch n x.epoch_gate n) (length steps) count =
    turns_repeat p f s.epoch n x.epoch_gate count n 0 (length steps) (omega arith) goes.room ∙ ap (λ (b : ℕ). flat_map (phase_of_fills p f s.epoch) (below n) ++ notes_from p f (turn_at p f s.epoch n x.epoch_gate b) (length steps) count) same in
    let all_notes : List Note = before_repeats p (public_at p f s.epoch) (λ cell. x.generation_gate) g in
    let opened : List Note = open_notes p (public_in p word_of s gates) c found g n in
    append_assoc head_notes (opened ++ steps_notes ring_kind p (public_of_life p word_of t gates) steps) after_calls
    ∙ ap (λ (ns : List Note). head_notes ++ ns) (append_assoc opened (steps_notes ring_kind p (public_of_life p word_of t gates) steps) after_calls)
    ∙ (λ i. head_notes ++ ((opening i ++ again i) ++ (served ∙ ap (λ (u : HistoryTurn). notes_from p f u (length steps) count) there) i))
    ∙ ap (λ (ns : List Note). head_notes ++ ns) (append_assoc all_notes (flat_map (phase_of_fills p f s.epoch) (below n)) (notes_from p f (turn_at p f s.epoch n x.epoch_gate n) (length steps) count))
    ∙ sym (append_assoc head_notes all_notes (flat_map (phase_of_fills p f s.epoch) (below n) ++ notes_from p f (turn_at p f s.epoch n x.epoch_gate n) (length steps) count))
    ∙ ap (λ (ns : List Note). opening_step p f false x ++ ns) (sym turns)

pub runs_show : RunsShowHistories
runs_show p word_of slot before f ranked life ends whole filled c found gates calls steps acts kept is =
    let some : 0 < p.dummies = (let one = p.in_range.some_dummies in omega (arith, one)) in
    sym (append-nil (notes_of_run p word_of (reached p word_of (formatted_life slot) before) c found gates steps))
    ∙ runs_go p word_of slot before f some (λ x. Unit {0}) (λ q. []) 0 (λ t n g at begun few is_open q. refl) ranked life ends whole filled c found gates calls steps acts kept is tt
