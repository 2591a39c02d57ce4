-- What the next run finds.
use Rattle.std.specs.Prelude.{◌≡◌, ◌<◌, ◌≤◌, ◌⊎◌, ℕ, ◌+◌, ◌-◌, ◌%◌, ◌==◌, Bool, true, cond, List, [], ◌∷◌, ◌++◌, map, filter, length, take, Option, Some, None}
use Rattle.std.proofs.Common.{zero, suc, arith, refl, sym, ap, ◌∙◌, subst, inl, inr, add-one, length-append}
use Rattle.std.proofs.lemmas.List.{length-take-le}
use Rattle.std.proofs.lemmas.Bool.{cases_lt, eq-eqb, le-ltb, lt-ltb, or_left, or_right}
use Rattle.ob_base.specs.Layout.{EpochTwin, log_cell, record_cells}
use Rattle.ob_base.specs.Tree.{below}
use Rattle.ob_base.specs.declared.params.Params.{Params}
use Rattle.ob_store.specs.declared.watch.Note.{Note}
use Rattle.ob_store.specs.declared.watch.Note.TheVariants.{Sync, Write}
use Rattle.ob_schedule.specs.Paths.{by_falling_level}
use Rattle.ob_schedule.specs.Schedule.{Fills, body_cell, bucket_writes, check_cells, end_lifts, gate_cell, is_lifted_by_end, log_gates, record_notes, writes_of, written_by_end, Public}
use Rattle.ob_recover.specs.Life.{WordId, LifeAct, LifeBatch, LifeState, Append, Open, ShowBatch, ShowLifts, End as EndAct, IsLife, life_step, reached}
use Rattle.ob_serial.specs.Vaults.{End, Fetch, VaultCall}
use Rattle.ob_vault.specs.KindShown.{public_behind}
use Rattle.ob_vault.specs.RingKind.{ring_kind}
use Rattle.ob_vault.specs.Seen.{RingPublic, ring_next}
use Rattle.ob_vault.specs.Shapes.{Ends, Fetches, Shape}
use Rattle.ob_vault.specs.Shown.{AreShownBy}
use Rattle.ob_vault.proofs.OpenedRun.{IsFurther, further}
use Rattle.ob_histories.specs.Fills.{AllFills, fills_at, public_in_epoch}
use Rattle.ob_histories.specs.Histories.{AreRecordsLeft, EpochEnded, EpochStays, IsBatchLeft, IsEndLeft, IsGateLeft, IsTurnLeft}
use Rattle.ob_histories.specs.Runs.{HistoryTurn, RunFound, next_turn, notes_from, notes_of_batch, notes_of_end, notes_of_turn, turn_behind}
use Rattle.ob_admitted.specs.Between.{AreActsLeft, IsFoundAsShown, MayComeNext, RunsLeaveHistories, turn_of_run}
use Rattle.ob_admitted.specs.Calls.{AreStepsOf}
use Rattle.ob_admitted.specs.Cuts.{life_behind_calls}
use Rattle.ob_admitted.specs.Repeats.{begin_acts}
use Rattle.ob_admitted.specs.Wholes.{found_of_life}
use Rattle.ob_admitted.proofs.Wholes.{turn_at, turn_next}

-- the turn is where the life is
pub record IsTurnOf (p : Params) (t : HistoryTurn) (s : LifeState) : Type 0 where
  pub epoch : t.epoch ≡ s.epoch
  pub batch : t.batch ≡ length s.log
  pub records : t.records ≤ length s.log
  pub room : length s.log ≤ p.batches

-- ---- behind an opening and calls

module _ (p : Params) (f : AllFills) (e records : ℕ) (gate : Bool) where
  pub turns_pass : (n b m : ℕ) → b + n ≤ p.batches → turn_behind p (turn_at p f e records gate b) (n + m) ≡ turn_behind p (turn_at p f e records gate (b + n)) m
  turns_pass zero b m low = (let none : zero + m ≡ m = omega arith in let same : b ≡ b + zero = omega arith in λ i. turn_behind p (turn_at p f e records gate (same i)) (none i))
  turns_pass (suc n) b m low =
      let more : suc n + m ≡ suc (n + m) = omega arith in
      let same : (b + 1) + n ≡ b + suc n = omega arith in
      ap (λ (k : ℕ). turn_behind p (turn_at p f e records gate b) k) more ∙ ap (λ (t : HistoryTurn). turn_behind p t (n + m)) (turn_next p f e records gate b (omega (arith, low)))
      ∙ turns_pass n (b + 1) m (omega (arith, low)) ∙ ap (λ (k : ℕ). turn_behind p (turn_at p f e records gate k) m) same

module _ (p : Params) (word_of : WordId → ℕ) (s : LifeState) (t : HistoryTurn) (at : IsTurnOf p t s) where
  abbrev fetched : HistoryTurn
  fetched = record t { batch = suc t.batch }

  abbrev ended : HistoryTurn
  ended = record { epoch = suc t.epoch; batch = 0; records = 0; gate = true }

  -- behind a batch the turn is the next one of its epoch
  fetch_next : (r : LifeBatch) → length s.log < p.batches → (next_turn p t ≡ fetched) × IsTurnOf p fetched (life_step p word_of (life_step p word_of s (Append r)) ShowBatch)
  fetch_next r room =
      let longer = length-append s.log (r ∷ []) in
      let same : t.batch ≡ length s.log = at.batch in
      let few : t.records ≤ length s.log = at.records in (
        ap (λ (b : Bool). cond b fetched ended) (lt-ltb t.batch p.batches (omega (arith, same, room))),
        record { epoch = at.epoch; batch = omega (arith, same, longer); records = omega (arith, few, longer); room = omega (arith, room, longer) },
      )

  -- and behind an end the first of the next epoch
  end_next : (ws : List (ℕ × Option WordId)) (drawn : ℕ) (slot : ℕ → ℕ → ℕ) → length s.log ≡ p.batches → (next_turn p t ≡ ended) × IsTurnOf p ended (life_step p word_of (life_step p word_of s ShowLifts) (EndAct ws drawn slot))
  end_next ws drawn slot full =
      let same : t.batch ≡ length s.log = at.batch in (
        ap (λ (b : Bool). cond b fetched ended) (le-ltb t.batch p.batches (omega (arith, same, full))),
        record { epoch = ap suc at.epoch ∙ sym (add-one s.epoch); batch = refl; records = omega arith; room = omega arith },
      )

module _ (p : Params) (word_of : WordId → ℕ) where
  abbrev Led : HistoryTurn → LifeState → LifeState → Type 0
  Led t s then = IsTurnOf p t then × (then.generation ≡ s.generation)

  turns_lead : (calls : List VaultCall) (steps : List (Shape × Fills)) (s : LifeState) (t : HistoryTurn) (acts : List LifeAct) → IsTurnOf p t s → IsLife p word_of s acts → AreShownBy p word_of s calls steps acts
      → Led (turn_behind p t (length steps)) s (reached p word_of s acts)
  turns_lead [] [] s t acts at life show = subst (λ (xs : List LifeAct). Led t s (reached p word_of s xs)) (sym show) (at, refl)
  turns_lead [] (step ∷ steps) s t acts at life show = absurd show
  turns_lead (call ∷ calls) [] s t acts at life show = absurd show
  turns_lead (Fetch asks ∷ calls) (step ∷ steps) s t acts at life show =
      let r : LifeBatch = show.3.0 in
      let rest : List LifeAct = show.1 in
      let are : acts ≡ Append r ∷ ShowBatch ∷ rest = show.2 ∙ ap (λ (xs : List LifeAct). xs ++ rest) show.3.2 in
      let life_then = subst (λ (xs : List LifeAct). IsLife p word_of s xs) are life in
      let behind = subst (λ (xs : List LifeAct). AreShownBy p word_of (reached p word_of s xs) calls steps rest) show.3.2 show.5 in
      let s2 : LifeState = life_step p word_of (life_step p word_of s (Append r)) ShowBatch in
      let next = fetch_next p word_of s t at r life_then.0.0 in
      let later = turns_lead calls steps s2 (next_turn p t) rest (subst (λ (u : HistoryTurn). IsTurnOf p u s2) (sym next.0) next.1) life_then.1.1 behind in
      subst (λ (xs : List LifeAct). Led (turn_behind p (next_turn p t) (length steps)) s (reached p word_of s xs)) (sym are) later
  turns_lead (End writes ∷ calls) (step ∷ steps) s t acts at life show =
      let ws = show.3.0 in
      let drawn : ℕ = show.3.1 in
      let slot = show.3.2 in
      let rest : List LifeAct = show.1 in
      let are : acts ≡ ShowLifts ∷ EndAct ws drawn slot ∷ rest = show.2 ∙ ap (λ (xs : List LifeAct). xs ++ rest) show.3.3 in
      let life_then = subst (λ (xs : List LifeAct). IsLife p word_of s xs) are life in
      let behind = subst (λ (xs : List LifeAct). AreShownBy p word_of (reached p word_of s xs) calls steps rest) show.3.3 show.5 in
      let e2 : LifeState = life_step p word_of (life_step p word_of s ShowLifts) (EndAct ws drawn slot) in
      let next = end_next p word_of s t at ws drawn slot life_then.0.0 in
      let later = turns_lead calls steps e2 (next_turn p t) rest (subst (λ (u : HistoryTurn). IsTurnOf p u e2) (sym next.0) next.1) life_then.1.1 behind in
      subst (λ (xs : List LifeAct). Led (turn_behind p (next_turn p t) (length steps)) s (reached p word_of s xs)) (sym are) later

-- ---- what is left of the step behind them

records_left : (batch lacking records : ℕ) → (records ≡ batch) ⊎ (records ≡ suc batch) → (records ≡ suc batch → lacking ≤ 1) → (lacking ≡ 0 → records ≡ suc batch) → AreRecordsLeft batch lacking records
records_left batch zero records either low surely = surely refl
records_left batch (suc zero) records either low surely = either
records_left batch (suc (suc lacking)) records (inl same) low surely = same
records_left batch (suc (suc lacking)) records (inr same) low surely = (let few = low same in absurd (omega (arith, few)))

end_left : (p : Params) (t : HistoryTurn) (lacking : ℕ) (next : RunFound) → EpochEnded t next ⊎ EpochStays p t lacking next → (next.epoch ≡ suc t.epoch → lacking ≤ 1) → (lacking ≡ 0 → next.epoch ≡ suc t.epoch) → IsEndLeft p t lacking next
end_left p t zero next (inl ended) low surely = ended
end_left p t zero next (inr stays) low surely = (let other = surely refl in let same = stays.0 in absurd (omega (arith, other, same)))
end_left p t (suc zero) next either low surely = either
end_left p t (suc (suc lacking)) next (inl ended) low surely = (let few = low ended.0 in absurd (omega (arith, few)))
end_left p t (suc (suc lacking)) next (inr stays) low surely = stays

-- a setting has four notes at least
gate_stays : (was is : Bool) (lacking : ℕ) → 5 ≤ lacking → is ≡ was → IsGateLeft was lacking is
gate_stays was is (suc (suc (suc (suc (suc zero))))) many same = (λ opened. sym same ∙ opened)
gate_stays was is (suc (suc (suc (suc (suc (suc lacking)))))) many same = same
gate_stays was is zero many same = absurd (omega (arith, many))
gate_stays was is (suc zero) many same = absurd (omega (arith, many))
gate_stays was is (suc (suc zero)) many same = absurd (omega (arith, many))
gate_stays was is (suc (suc (suc zero))) many same = absurd (omega (arith, many))
gate_stays was is (suc (suc (suc (suc zero)))) many same = absurd (omega (arith, many))

pub behind_all : {X : Type 0} (n : ℕ) (a b : List X) → n ≤ length b → n ≤ length (a ++ b)
behind_all n a b many = (let all = length-append a b in omega (arith, all, many))

long : (a b c d tail : List Note) → 4 ≤ length tail → 5 ≤ length (a ++ (b ++ c ++ d ++ (Sync ∷ []) ++ tail))
long a b c d tail many =
    let front : List Note = (b ++ c) ++ d in
    let sync : List Note = Sync ∷ [] in
    let one : 1 ≤ length (front ++ sync) = behind_all 1 front sync (omega arith) in
    let all = length-append (front ++ sync) tail in
    behind_all 5 a ((front ++ sync) ++ tail) (omega (arith, all, one, many))

record_long : (p : Params) (b : ℕ) → 3 ≤ length (record_notes p 0 b)
record_long p b = behind_all 3 (writes_of (map (log_cell p 0 b) (below (record_cells p)))) (Sync ∷ Write (log_cell p 0 b (record_cells p)) ∷ Sync ∷ []) (omega arith)

module _ (p : Params) (f : AllFills) (t : HistoryTurn) where
  end_long : 5 ≤ length (notes_of_end p f t)
  end_long =
      let q : Public = record (public_in_epoch p f t.epoch p.batches) { gates = λ cell. t.gate } in
      let e : ℕ = q.epoch + 1 in
      let setting : List Note = Write (body_cell p EpochTwin e) ∷ Sync ∷ Write (gate_cell p EpochTwin e) ∷ Sync ∷ [] in
      let closing : List Note = cond t.gate (Write (gate_cell p EpochTwin e) ∷ Sync ∷ []) [] in
      long (end_lifts p q (fills_at p f t.epoch)) (bucket_writes p (λ u. 1 - q.homes u) (filter (is_lifted_by_end p q) (by_falling_level (p.levels + 1)))) (writes_of (check_cells p (e % 2))) (writes_of (log_gates p ((e + 1) % 2))) (closing ++ setting)
      (behind_all 4 closing setting (omega arith))

  module _ (s : LifeState) (at : IsTurnOf p t s) (count : ℕ) (next : RunFound) where
    few : t.records ≤ t.batch
    few = (let records = at.records in let same = at.batch in omega (arith, records, same))

    of_batch : t.batch < p.batches → next.epoch ≡ t.epoch → next.epoch_gate ≡ t.gate → AreRecordsLeft t.batch (length (record_notes p 0 t.batch) - count) next.records → IsTurnLeft p f t count next
    of_batch low epoch gate records =
        subst (λ (b : Bool). cond b (IsBatchLeft p t count next) (IsEndLeft p t (length (notes_of_turn p f t) - count) next)) (sym (lt-ltb t.batch p.batches low))
        (epoch, gate, subst (λ (b : Bool). cond b (next.records ≡ t.records) (AreRecordsLeft t.batch (length (record_notes p 0 t.batch) - count) next.records)) (sym (le-ltb t.batch t.records few)) records)

    of_end : p.batches ≤ t.batch → IsEndLeft p t (length (notes_of_turn p f t) - count) next → IsTurnLeft p f t count next
    of_end high left = subst (λ (b : Bool). cond b (IsBatchLeft p t count next) (IsEndLeft p t (length (notes_of_turn p f t) - count) next)) (sym (le-ltb t.batch p.batches high)) left

    long_turn : p.batches ≤ t.batch → 5 ≤ length (notes_of_turn p f t)
    long_turn high = subst (λ (b : Bool). 5 ≤ length (cond b (notes_of_batch p f t) (notes_of_end p f t))) (sym (le-ltb t.batch p.batches high)) end_long

    of_none : next.epoch ≡ t.epoch → next.records ≡ t.batch → count ≡ 0 → next.epoch_gate ≡ t.gate → IsTurnLeft p f t count next
    of_none epoch records none gate = go (cases_lt t.batch p.batches)
      where
        go : (t.batch < p.batches) ⊎ (p.batches ≤ t.batch) → IsTurnLeft p f t count next
        go (inl low) =
            let many = record_long p t.batch in
            of_batch low epoch gate (records_left t.batch (length (record_notes p 0 t.batch) - count) next.records (inl records) (λ more. absurd (omega (arith, more, records))) (λ all. absurd (omega (arith, all, none, many))))
        go (inr high) =
            let many = long_turn high in
            let full : next.records ≡ p.batches = (let room = at.room in let same = at.batch in omega (arith, records, room, same, high)) in
            let left : 5 ≤ length (notes_of_turn p f t) - count = omega (arith, many, none) in
            of_end high (end_left p t (length (notes_of_turn p f t) - count) next (inr (epoch, gate_stays t.gate next.epoch_gate (length (notes_of_turn p f t) - count) left gate, full))
            (λ ended. absurd (omega (arith, ended, epoch))) (λ all. absurd (omega (arith, all, left))))

module _ (p : Params) (word_of : WordId → ℕ) (f : AllFills) (s : LifeState) (t : HistoryTurn) (at : IsTurnOf p t s) (count : ℕ) (found : ℕ → Bool) where
  abbrev Next : List LifeAct → RunFound
  Next more = found_of_life p (reached p word_of s more) found

  -- where the log is as it was, or has a record more
  of_fetch : (more : List LifeAct) (asks : List (Option ℕ)) → length s.log < p.batches → (Next more).epoch ≡ s.epoch → ((Next more).records ≡ length s.log) ⊎ ((Next more).records ≡ suc (length s.log))
      → IsFoundAsShown p f t (Some (Fetch asks)) count (Next more) → IsTurnLeft p f t count (Next more)
  of_fetch more asks low epoch records as_shown =
      let same : t.batch ≡ length s.log = at.batch in
      let either : ((Next more).records ≡ t.batch) ⊎ ((Next more).records ≡ suc t.batch) = subst (λ (n : ℕ). ((Next more).records ≡ n) ⊎ ((Next more).records ≡ suc n)) (sym same) records in
      let least = as_shown.0 in
      let surely = as_shown.1 in
      of_batch p f t s at count (Next more) (omega (arith, same, low)) (epoch ∙ sym at.epoch) as_shown.2
      (records_left t.batch (length (record_notes p 0 t.batch) - count) (Next more).records either (λ one. (let few = least one in omega (arith, few))) (λ all. surely (omega (arith, all))))

  of_ended : (more : List LifeAct) (writes : List (ℕ × Option (List ℕ))) → length s.log ≡ p.batches
      → (((Next more).epoch ≡ s.epoch) × ((Next more).records ≡ length s.log)) ⊎ (((Next more).epoch ≡ s.epoch + 1) × ((Next more).records ≡ 0))
      → IsFoundAsShown p f t (Some (End writes)) count (Next more) → IsTurnLeft p f t count (Next more)
  of_ended more writes full either as_shown = of_end p f t s at count (Next more) (let same = at.batch in omega (arith, same, full))
      (end_left p t (length (notes_of_turn p f t) - count) (Next more) (go either) (λ ended. (let few = (as_shown.0 ended).0 in omega (arith, few))) (λ all. as_shown.1 (omega (arith, all))))
    where
      go : (((Next more).epoch ≡ s.epoch) × ((Next more).records ≡ length s.log)) ⊎ (((Next more).epoch ≡ s.epoch + 1) × ((Next more).records ≡ 0))
          → EpochEnded t (Next more) ⊎ EpochStays p t (length (notes_of_turn p f t) - count) (Next more)
      go (inl (epoch, records)) = (let still : (Next more).epoch ≡ t.epoch = epoch ∙ sym at.epoch in inr (still, as_shown.2 still, records ∙ full))
      go (inr (epoch, records)) = (let ended : (Next more).epoch ≡ suc t.epoch = epoch ∙ add-one s.epoch ∙ ap suc (sym at.epoch) in inl (ended, (as_shown.0 ended).1, records))

  turn_left : (refused : Option VaultCall) (more : List LifeAct) → MayComeNext p s refused → AreActsLeft refused more → IsFoundAsShown p f t refused count (Next more) → IsTurnLeft p f t count (Next more)
  turn_left None more may left as_shown =
      of_none p f t s at count (Next more) (ap (λ (xs : List LifeAct). (Next xs).epoch) left ∙ sym at.epoch) (ap (λ (xs : List LifeAct). (Next xs).records) left ∙ sym at.batch) as_shown.0 as_shown.1
  turn_left (Some (Fetch asks)) more may (inl none) as_shown =
      of_fetch more asks may (ap (λ (xs : List LifeAct). (Next xs).epoch) none) (inl (ap (λ (xs : List LifeAct). (Next xs).records) none)) as_shown
  turn_left (Some (Fetch asks)) more may (inr (r, inl one)) as_shown =
      of_fetch more asks may (ap (λ (xs : List LifeAct). (Next xs).epoch) one) (inr (ap (λ (xs : List LifeAct). (Next xs).records) one ∙ length-append s.log (r ∷ []) ∙ add-one (length s.log))) as_shown
  turn_left (Some (Fetch asks)) more may (inr (r, inr both)) as_shown =
      of_fetch more asks may (ap (λ (xs : List LifeAct). (Next xs).epoch) both) (inr (ap (λ (xs : List LifeAct). (Next xs).records) both ∙ length-append s.log (r ∷ []) ∙ add-one (length s.log))) as_shown
  turn_left (Some (End writes)) more may (inl (inl none)) as_shown =
      of_ended more writes may (inl (ap (λ (xs : List LifeAct). (Next xs).epoch) none, ap (λ (xs : List LifeAct). (Next xs).records) none)) as_shown
  turn_left (Some (End writes)) more may (inl (inr lifts)) as_shown =
      of_ended more writes may (inl (ap (λ (xs : List LifeAct). (Next xs).epoch) lifts, ap (λ (xs : List LifeAct). (Next xs).records) lifts)) as_shown
  turn_left (Some (End writes)) more may (inr (ws, drawn, slot, all)) as_shown =
      of_ended more writes may (inr (ap (λ (xs : List LifeAct). (Next xs).epoch) all, ap (λ (xs : List LifeAct). (Next xs).records) all)) as_shown

  -- no call begins a generation
  same_generation : (refused : Option VaultCall) (more : List LifeAct) → AreActsLeft refused more → (Next more).generation ≡ s.generation
  same_generation None more left = ap (λ (xs : List LifeAct). (Next xs).generation) left
  same_generation (Some (Fetch asks)) more (inl none) = ap (λ (xs : List LifeAct). (Next xs).generation) none
  same_generation (Some (Fetch asks)) more (inr (r, inl one)) = ap (λ (xs : List LifeAct). (Next xs).generation) one
  same_generation (Some (Fetch asks)) more (inr (r, inr both)) = ap (λ (xs : List LifeAct). (Next xs).generation) both
  same_generation (Some (End writes)) more (inl (inl none)) = ap (λ (xs : List LifeAct). (Next xs).generation) none
  same_generation (Some (End writes)) more (inl (inr lifts)) = ap (λ (xs : List LifeAct). (Next xs).generation) lifts
  same_generation (Some (End writes)) more (inr (ws, drawn, slot, all)) = ap (λ (xs : List LifeAct). (Next xs).generation) all

-- where the life is behind a run's calls
pub turn_at_end : (p : Params) (word_of : WordId → ℕ) (f : AllFills) (s : LifeState) (found : ℕ → Bool) (calls : List VaultCall) (steps : List (Shape × Fills)) (acts : List LifeAct) → length s.log ≤ p.batches
    → IsLife p word_of (reached p word_of s (begin_acts s (suc s.generation))) acts → AreShownBy p word_of (reached p word_of s (begin_acts s (suc s.generation))) calls steps acts
    → IsTurnOf p (turn_of_run p s found steps) (life_behind_calls p word_of s acts) × ((life_behind_calls p word_of s acts).generation ≡ suc s.generation)
turn_at_end p word_of f s found calls steps acts room life show =
    let n : ℕ = length s.log in
    let g : ℕ = suc s.generation in
    let t : LifeState = reached p word_of s (begin_acts s g) in
    let on : IsFurther (life_step p word_of s (Open g)) t n = further p word_of (life_step p word_of s (Open g)) n in
    let x : RunFound = found_of_life p s found in
    let first : HistoryTurn = turn_at p f s.epoch n x.epoch_gate n in
    let many : length t.log ≡ n = ap length on.log in
    let at : IsTurnOf p first t = record { epoch = sym on.epoch; batch = sym many; records = omega (arith, many); room = omega (arith, many, room) } in
    let led = turns_lead p word_of calls steps t first acts at life show in
    let same : 0 + n ≡ n = omega arith in
    let turns : turn_of_run p s found steps ≡ turn_behind p first (length steps) =
    turns_pass p f s.epoch n x.epoch_gate n 0 (length steps) (omega (arith, room)) ∙ ap (λ (b : ℕ). turn_behind p (turn_at p f s.epoch n x.epoch_gate b) (length steps)) same in
    (subst (λ (u : HistoryTurn). IsTurnOf p u (life_behind_calls p word_of s acts)) (sym turns) led.0, led.1 ∙ on.generation)

-- the turn behind the batches that are repeated
pub turn_from : (p : Params) (f : AllFills) (s : LifeState) (found : ℕ → Bool) (steps : List (Shape × Fills)) → length s.log ≤ p.batches
    → turn_of_run p s found steps ≡ turn_behind p (turn_at p f s.epoch (length s.log) (found_of_life p s found).epoch_gate (length s.log)) (length steps)
turn_from p f s found steps room =
    let n : ℕ = length s.log in
    let gate : Bool = (found_of_life p s found).epoch_gate in
    let same : 0 + n ≡ n = omega arith in
    turns_pass p f s.epoch n gate n 0 (length steps) (omega (arith, room)) ∙ ap (λ (b : ℕ). turn_behind p (turn_at p f s.epoch n gate b) (length steps)) same

-- where the life is behind the opening
pub turn_begun : (p : Params) (word_of : WordId → ℕ) (f : AllFills) (s : LifeState) (gate : Bool) → length s.log ≤ p.batches → IsTurnOf p (turn_at p f s.epoch (length s.log) gate (length s.log)) (reached p word_of s (begin_acts s (suc s.generation)))
turn_begun p word_of f s gate room =
    let n : ℕ = length s.log in
    let t : LifeState = reached p word_of s (begin_acts s (suc s.generation)) in
    let on : IsFurther (life_step p word_of s (Open (suc s.generation))) t n = further p word_of (life_step p word_of s (Open (suc s.generation))) n in
    let many : length t.log ≡ n = ap length on.log in
    record { epoch = sym on.epoch; batch = sym many; records = omega (arith, many); room = omega (arith, many, room) }

-- ---- the gate of the turn behind calls

-- what is public of the epoch has the turn's gate, and the durable one is open
pub record HasGateOf (p : Params) (t : HistoryTurn) (s : LifeState) (q : RingPublic) : Type 0 where
  pub epoch : (q.known).epoch ≡ s.epoch
  pub gate : t.gate ≡ (q.known).gates (gate_cell p EpochTwin ((q.known).epoch + 1))
  pub durable : (q.known).gates (gate_cell p EpochTwin (q.known).epoch) ≡ true

pub gates_lead : (p : Params) (word_of : WordId → ℕ) (calls : List VaultCall) (steps : List (Shape × Fills)) (q : RingPublic) (s : LifeState) (t : HistoryTurn) (acts : List LifeAct) → IsTurnOf p t s → HasGateOf p t s q → IsLife p word_of s acts → AreStepsOf calls steps
    → AreShownBy p word_of s calls steps acts → HasGateOf p (turn_behind p t (length steps)) (reached p word_of s acts) (public_behind ring_kind p q steps)
gates_lead p word_of [] [] q s t acts at has life steps_are show = subst (λ (xs : List LifeAct). HasGateOf p t (reached p word_of s xs) q) (sym show) has
gates_lead p word_of [] (step ∷ steps) q s t acts at has life steps_are show = absurd show
gates_lead p word_of (call ∷ calls) [] q s t acts at has life steps_are show = absurd show
gates_lead p word_of (Fetch asks ∷ calls) (step ∷ steps) q s t acts at has life steps_are show =
    let r : LifeBatch = show.3.0 in
    let rest : List LifeAct = show.1 in
    let are : acts ≡ Append r ∷ ShowBatch ∷ rest = show.2 ∙ ap (λ (xs : List LifeAct). xs ++ rest) show.3.2 in
    let life_then = subst (λ (xs : List LifeAct). IsLife p word_of s xs) are life in
    let behind = subst (λ (xs : List LifeAct). AreShownBy p word_of (reached p word_of s xs) calls steps rest) show.3.2 show.5 in
    let s2 : LifeState = life_step p word_of (life_step p word_of s (Append r)) ShowBatch in
    let next = fetch_next p word_of s t at r life_then.0.0 in
    let has_next : HasGateOf p (record t { batch = suc t.batch }) s2 (ring_next p q Fetches step.1) = record { epoch = has.epoch; gate = has.gate; durable = has.durable } in
    let later = gates_lead p word_of calls steps (ring_next p q Fetches step.1) s2 (next_turn p t) rest (subst (λ (u : HistoryTurn). IsTurnOf p u s2) (sym next.0) next.1) (subst (λ (u : HistoryTurn). HasGateOf p u s2 (ring_next p q Fetches step.1)) (sym next.0) has_next)
    life_then.1.1 steps_are.1 behind in
    subst (λ (shape : Shape). HasGateOf p (turn_behind p (next_turn p t) (length steps)) (reached p word_of s acts) (public_behind ring_kind p (ring_next p q shape step.1) steps)) (sym steps_are.0)
    (subst (λ (xs : List LifeAct). HasGateOf p (turn_behind p (next_turn p t) (length steps)) (reached p word_of s xs) (public_behind ring_kind p (ring_next p q Fetches step.1) steps)) (sym are) later)
gates_lead p word_of (End writes ∷ calls) (step ∷ steps) q s t acts at has life steps_are show =
    let ws = show.3.0 in
    let drawn : ℕ = show.3.1 in
    let slot = show.3.2 in
    let rest : List LifeAct = show.1 in
    let are : acts ≡ ShowLifts ∷ EndAct ws drawn slot ∷ rest = show.2 ∙ ap (λ (xs : List LifeAct). xs ++ rest) show.3.3 in
    let life_then = subst (λ (xs : List LifeAct). IsLife p word_of s xs) are life in
    let behind = subst (λ (xs : List LifeAct). AreShownBy p word_of (reached p word_of s xs) calls steps rest) show.3.3 show.5 in
    let e2 : LifeState = life_step p word_of (life_step p word_of s ShowLifts) (EndAct ws drawn slot) in
    let next = end_next p word_of s t at ws drawn slot life_then.0.0 in
    let e : ℕ = (q.known).epoch in
    let gates : ℕ → Bool = (q.known).gates in
    let back : gate_cell p EpochTwin ((e + 1) + 1) ≡ gate_cell p EpochTwin e = omega arith in
    let has_next : HasGateOf p (record { epoch = suc t.epoch; batch = 0; records = 0; gate = true }) e2 (ring_next p q Ends step.1) = record {
      epoch = ap (λ (n : ℕ). n + 1) has.epoch;
      gate = sym (or_right (gate_cell p EpochTwin ((e + 1) + 1) == gate_cell p EpochTwin (e + 1)) (gates (gate_cell p EpochTwin ((e + 1) + 1))) (ap gates back ∙ has.durable));
      durable = or_left (gate_cell p EpochTwin (e + 1) == gate_cell p EpochTwin (e + 1)) (gates (gate_cell p EpochTwin (e + 1))) (eq-eqb (gate_cell p EpochTwin (e + 1)) (gate_cell p EpochTwin (e + 1)) refl);
    } in
    let later = gates_lead p word_of calls steps (ring_next p q Ends step.1) e2 (next_turn p t) rest (subst (λ (u : HistoryTurn). IsTurnOf p u e2) (sym next.0) next.1) (subst (λ (u : HistoryTurn). HasGateOf p u e2 (ring_next p q Ends step.1)) (sym next.0) has_next)
    life_then.1.1 steps_are.1 behind in
    subst (λ (shape : Shape). HasGateOf p (turn_behind p (next_turn p t) (length steps)) (reached p word_of s acts) (public_behind ring_kind p (ring_next p q shape step.1) steps)) (sym steps_are.0)
    (subst (λ (xs : List LifeAct). HasGateOf p (turn_behind p (next_turn p t) (length steps)) (reached p word_of s xs) (public_behind ring_kind p (ring_next p q Ends step.1) steps)) (sym are) later)

pub runs_leave : RunsLeaveHistories
runs_leave p word_of f s found next calls steps acts room life show refused count more may left stays as_shown =
    let end = turn_at_end p word_of f s found calls steps acts room life show in (
      same_generation p word_of f (life_behind_calls p word_of s acts) (turn_of_run p s found steps) end.0 count next refused more left ∙ end.1,
      stays,
      turn_left p word_of f (life_behind_calls p word_of s acts) (turn_of_run p s found steps) end.0 count next refused more may left as_shown,
    )

-- ---- how many notes

-- an end's writes, of which the last ones set the register
pub written_long : (p : Params) (q : Public) → 5 ≤ length (written_by_end p q)
written_long p q =
    let e : ℕ = q.epoch + 1 in
    let setting : List Note = Write (body_cell p EpochTwin e) ∷ Sync ∷ Write (gate_cell p EpochTwin e) ∷ Sync ∷ [] in
    let closing : List Note = cond (q.gates (gate_cell p EpochTwin e)) (Write (gate_cell p EpochTwin e) ∷ Sync ∷ []) [] in
    long [] (bucket_writes p (λ u. 1 - q.homes u) (filter (is_lifted_by_end p q) (by_falling_level (p.levels + 1)))) (writes_of (check_cells p (e % 2))) (writes_of (log_gates p ((e + 1) % 2))) (closing ++ setting) (behind_all 4 closing setting (omega arith))

-- a run's notes, by those of the turn that it was in
pub turns_many : (p : Params) (f : AllFills) (t : HistoryTurn) (n shown : ℕ) → length (notes_from p f t n shown) ≡ length (notes_from p f t n 0) + length (take shown (notes_of_turn p f (turn_behind p t n)))
turns_many p f t zero shown = (let none : length (take 0 (notes_of_turn p f t)) ≡ 0 = length-take-le 0 (notes_of_turn p f t) (omega arith) in omega (arith, none))
turns_many p f t (suc n) shown =
    let later = turns_many p f (next_turn p t) n shown in
    let all = length-append (notes_of_turn p f t) (notes_from p f (next_turn p t) n shown) in
    let none = length-append (notes_of_turn p f t) (notes_from p f (next_turn p t) n 0) in
    omega (arith, later, all, none)
