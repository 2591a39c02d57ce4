-- A register is set, and at each stop on the way what a history leaves is allowed.
use Rattle.std.specs.Prelude.{◌≡◌, ◌⊎◌, ℕ, ◌+◌, ◌*◌, ◌%◌, Bool, true, false, List, [], ◌∷◌, Some}
use Rattle.std.proofs.Common.{suc, refl, sym, ap, ◌∙◌, subst, inl, inr, arith}
use Rattle.ob_base.specs.declared.params.Params.{Params}
use Rattle.ob_base.specs.Layout.{Region, GenerationTwin, EpochTwin, start_of}
use Rattle.ob_store.specs.declared.watch.Note.{Note}
use Rattle.ob_store.specs.declared.watch.Note.TheVariants.{Write, Sync}
use Rattle.ob_schedule.specs.Schedule.{set_twin, gate_cell, body_cell}
use Rattle.ob_schedule.specs.declared.want.Side.{Side}
use Rattle.ob_schedule.specs.declared.want.Side.TheVariants.{Even, Odd}
use Rattle.ob_schedule.specs.declared.want.Gate.{Gate}
use Rattle.ob_schedule.specs.declared.want.Gate.TheVariants.{Open, Closed, Unsure}
use Rattle.ob_schedule.specs.declared.want.Register.TheVariants.{Generation, Epoch}
use Rattle.ob_schedule.specs.declared.want.Change.TheVariants.{Keeps, Settles, Doubts, Closes, SetsGeneration, EndsEpoch}
use Rattle.ob_schedule.specs.declared.want.Want.{Want}
use Rattle.ob_schedule.specs.declared.want.Want.TheVariants.{Fixed, Setting}
use Rattle.ob_schedule.specs.Sides.{other, side_number}
use Rattle.ob_schedule.specs.Standing.{StandingKnown, standing_ended}
use Rattle.ob_schedule.specs.Wants.{sets}
use Rattle.ob_schedule.specs.Follow.{Follow, taken_up}
use Rattle.ob_histories.specs.Fills.{AllFills, AreAllFills, leaves_of_batches}
use Rattle.ob_histories.specs.Runs.{RunFound, HistoryTurn}
use Rattle.ob_histories.specs.Histories.{IsOpeningLeft, IsEndLeft, EpochEnded, EpochStays, IsGateLeft}
use Rattle.ob_histories.proofs.Standing.{Holds}
use Rattle.ob_histories.proofs.Ended.{other_side, ended_holds}
use Rattle.ob_histories.proofs.Walks.{Walk, walk_none, walk_note, Stops, up_stops}
use Rattle.ob_histories.proofs.Places.{at}
use Rattle.ob_histories.proofs.Finding.{GateMay, RecordsMay, Stands, Allows, refit, holds_rest}

low_side : (side : Side) (n : ℕ) → side_number side ≡ n % 2 → side_number side % 2 ≡ n % 2
low_side Even n is = omega (arith, is)
low_side Odd n is = omega (arith, is)

-- a number's cells are its side's
pub gate_of_side : (p : Params) (twin : Region) (side : Side) (n : ℕ) → side_number side ≡ n % 2 → gate_cell p twin n ≡ gate_cell p twin (side_number side)
gate_of_side p twin side n is = ap (λ (r : ℕ). start_of p twin + 2 * r + 1) (sym (low_side side n is))

pub body_of_side : (p : Params) (twin : Region) (side : Side) (n : ℕ) → side_number side ≡ n % 2 → body_cell p twin n ≡ body_cell p twin (side_number side)
body_of_side p twin side n is = ap (λ (r : ℕ). start_of p twin + 2 * r) (sym (low_side side n is))

-- ---- the generation

module _ (p : Params) (f : AllFills) (x : RunFound) (s : StandingKnown) (stands : Stands p f x s) (batch : ℕ) (leaves : List ℕ) where
  abbrev side : Side
  side = other s.generation

  abbrev gate : ℕ
  gate = gate_cell p GenerationTwin (suc x.generation)

  abbrev body : ℕ
  body = body_cell p GenerationTwin (suc x.generation)

  turned : side_number side ≡ suc x.generation % 2
  turned = other_side s.generation x.generation stands.1.generation

  same_gate : ◌≡◌ {A = Note} (Write gate) (Write (gate_cell p GenerationTwin (side_number side)))
  same_gate = ap (λ (c : ℕ). Write c) (gate_of_side p GenerationTwin side (suc x.generation) turned)

  same_body : ◌≡◌ {A = Note} (Write body) (Write (body_cell p GenerationTwin (side_number side)))
  same_body = ap (λ (c : ℕ). Write c) (body_of_side p GenerationTwin side (suc x.generation) turned)

  abbrev wants_1 : List Want
  wants_1 = Fixed Sync SetsGeneration ∷ []

  abbrev wants_2 : List Want
  wants_2 = Fixed (Write (gate_cell p GenerationTwin (side_number side))) Keeps ∷ wants_1

  abbrev wants_3 : List Want
  wants_3 = Fixed Sync Keeps ∷ wants_2

  abbrev wants_4 : List Want
  wants_4 = Fixed (Write (body_cell p GenerationTwin (side_number side))) Keeps ∷ wants_3

  abbrev wants_5 : List Want
  wants_5 = Fixed Sync (Closes Generation) ∷ wants_4

  abbrev wants_6 : List Want
  wants_6 = Fixed (Write (gate_cell p GenerationTwin (side_number side))) (Doubts Generation) ∷ wants_5

  abbrev Left : ℕ → Follow → Type 0
  Left k h = (y : RunFound) → IsOpeningLeft x k y → Stops p (Allows p f y) h

  abbrev known : Gate → List Want → Follow
  known gate wants = at p (record s { generation_gate = gate }) batch leaves [] wants

  abbrev end : Follow
  end = taken_up (at p (record s { generation = side; generation_gate = Open }) batch leaves [] [])

  -- until its last sync the setting counts as not made
  stays : (k : ℕ) (g : Gate) (ws : List Want) → ((y : RunFound) → IsGateLeft x.generation_gate (suc k) y.generation_gate → GateMay g y.generation_gate) → Left (suc k) (known g ws)
  stays k g ws may = λ y left. (refl, (refl, refit p f s x y s.generation g stands (record { epoch = left.0; epoch_gate = left.1; records = left.2 }) (stands.1.generation ∙ ap (λ (n : ℕ). n % 2) (sym left.3.0)) (may y left.3.1)))

  walk_0 : Walk Left end [] end
  walk_0 = walk_none Left end (λ y left. up_stops p (Allows p f y) (at p (record s { generation = side; generation_gate = Open }) batch leaves [] [])
      (refl, (refl, refit p f s x y side Open stands (record { epoch = left.0; epoch_gate = left.1; records = left.2 }) (turned ∙ ap (λ (n : ℕ). n % 2) (sym left.3.0)) left.3.1)))

  walk_1 : Walk Left (known Closed wants_1) (Sync ∷ []) end
  walk_1 = walk_note Left (known Closed wants_1) end end Sync [] (refl, refl) (stays 0 Closed wants_1 (λ y left. left)) walk_0

  walk_2 : Walk Left (known Closed wants_2) (Write gate ∷ Sync ∷ []) end
  walk_2 = walk_note Left (known Closed wants_2) (known Closed wants_1) end (Write gate) (Sync ∷ []) (same_gate, refl) (stays 1 Closed wants_2 (λ y left. left)) walk_1

  walk_3 : Walk Left (known Closed wants_3) (Sync ∷ Write gate ∷ Sync ∷ []) end
  walk_3 = walk_note Left (known Closed wants_3) (known Closed wants_2) end Sync (Write gate ∷ Sync ∷ []) (refl, refl) (stays 2 Closed wants_3 (λ y left. left)) walk_2

  walk_4 : Walk Left (known Closed wants_4) (Write body ∷ Sync ∷ Write gate ∷ Sync ∷ []) end
  walk_4 = walk_note Left (known Closed wants_4) (known Closed wants_3) end (Write body) (Sync ∷ Write gate ∷ Sync ∷ []) (same_body, refl) (stays 3 Closed wants_4 (λ y left. left)) walk_3

  walk_5 : Walk Left (known Unsure wants_5) (Sync ∷ Write body ∷ Sync ∷ Write gate ∷ Sync ∷ []) end
  walk_5 = walk_note Left (known Unsure wants_5) (known Closed wants_4) end Sync (Write body ∷ Sync ∷ Write gate ∷ Sync ∷ []) (refl, refl) (stays 4 Unsure wants_5 (λ y left. tt)) walk_4

  walk_open : x.generation_gate ≡ true → Walk Left (known Open wants_6) (set_twin p GenerationTwin (suc x.generation) true) end
  walk_open is = walk_note Left (known Open wants_6) (known Unsure wants_5) end (Write gate) (Sync ∷ Write body ∷ Sync ∷ Write gate ∷ Sync ∷ []) (same_gate, refl) (stays 5 Open wants_6 (λ y left. left ∙ is)) walk_5

  walk_unsure : (was : Bool) → Walk Left (known Unsure (Setting Generation ∷ [])) (set_twin p GenerationTwin (suc x.generation) was) end
  walk_unsure true = walk_note Left (known Unsure (Setting Generation ∷ [])) (known Unsure wants_5) end (Write gate) (Sync ∷ Write body ∷ Sync ∷ Write gate ∷ Sync ∷ [])
      (inl (record { is = same_gate; then = refl })) (stays 5 Unsure (Setting Generation ∷ []) (λ y left. tt)) walk_5
  walk_unsure false = walk_note Left (known Unsure (Setting Generation ∷ [])) (known Closed wants_3) end (Write body) (Sync ∷ Write gate ∷ Sync ∷ [])
      (inr (record { is = same_body; then = refl })) (stays 3 Unsure (Setting Generation ∷ []) (λ y left. tt)) walk_3

  walk_by : (g : Gate) → GateMay g x.generation_gate → Walk Left (taken_up (known g (sets p Generation side g))) (set_twin p GenerationTwin (suc x.generation) x.generation_gate) end
  walk_by Open is = subst (λ (was : Bool). Walk Left (known Open wants_6) (set_twin p GenerationTwin (suc x.generation) was) end) (sym is) (walk_open is)
  walk_by Closed is = subst (λ (was : Bool). Walk Left (known Closed wants_4) (set_twin p GenerationTwin (suc x.generation) was) end) (sym is) walk_4
  walk_by Unsure is = walk_unsure x.generation_gate

  pub walk_generation : Walk Left (taken_up (at p s batch leaves [] (sets p Generation side s.generation_gate))) (set_twin p GenerationTwin (suc x.generation) x.generation_gate) end
  walk_generation = walk_by s.generation_gate stands.1.generation_gate

-- ---- the epoch

-- what was found, or set, before an end
abbrev pub found_at : Params → HistoryTurn → ℕ → ℕ → RunFound
found_at p t generation records = record { epoch = t.epoch; generation = generation; records = records; generation_gate = true; epoch_gate = t.gate }

-- what is found later has the run's generation
abbrev pub IsOf : ℕ → RunFound → Type 0
IsOf generation y = (y.generation ≡ generation) × (y.generation_gate ≡ true)

module _ (p : Params) (f : AllFills) (all : AreAllFills p f) (t : HistoryTurn) (generation number : ℕ) (s : StandingKnown) (stands : Stands p f (found_at p t generation p.batches) s) (batch : ℕ) (leaves : List ℕ)
    (shown : leaves ≡ leaves_of_batches p f (suc t.epoch) p.batches) (is_next : number % 2 ≡ suc t.epoch % 2) where
  abbrev next_side : Side
  next_side = other s.epoch

  abbrev gate_then : ℕ
  gate_then = gate_cell p EpochTwin number

  abbrev body_then : ℕ
  body_then = body_cell p EpochTwin number

  turned_then : side_number next_side ≡ number % 2
  turned_then = other_side s.epoch t.epoch stands.0.side ∙ sym is_next

  same_gate_then : ◌≡◌ {A = Note} (Write gate_then) (Write (gate_cell p EpochTwin (side_number next_side)))
  same_gate_then = ap (λ (c : ℕ). Write c) (gate_of_side p EpochTwin next_side number turned_then)

  same_body_then : ◌≡◌ {A = Note} (Write body_then) (Write (body_cell p EpochTwin (side_number next_side)))
  same_body_then = ap (λ (c : ℕ). Write c) (body_of_side p EpochTwin next_side number turned_then)

  abbrev last_1 : List Want
  last_1 = Fixed Sync Settles ∷ []

  abbrev last_2 : List Want
  last_2 = Fixed (Write (gate_cell p EpochTwin (side_number next_side))) EndsEpoch ∷ last_1

  abbrev last_3 : List Want
  last_3 = Fixed Sync Keeps ∷ last_2

  abbrev last_4 : List Want
  last_4 = Fixed (Write (body_cell p EpochTwin (side_number next_side))) Keeps ∷ last_3

  abbrev last_5 : List Want
  last_5 = Fixed Sync (Closes Epoch) ∷ last_4

  abbrev last_6 : List Want
  last_6 = Fixed (Write (gate_cell p EpochTwin (side_number next_side))) (Doubts Epoch) ∷ last_5

  abbrev EndLeft : ℕ → Follow → Type 0
  EndLeft k h = (y : RunFound) → IsOf generation y → IsEndLeft p t k y → Stops p (Allows p f y) h

  abbrev known_then : Gate → List Want → Follow
  known_then g wants = at p (record s { epoch_gate = g }) batch leaves [] wants

  abbrev ended : StandingKnown
  ended = standing_ended p (record s { epoch_gate = Closed }) leaves

  abbrev end_then : Follow
  end_then = taken_up (at p ended 0 [] [] [])

  abbrev in_doubt : Follow
  in_doubt = record { params = p; formatted = true; runs = true; stands = record s { epoch_gate = Closed }; newer = Some ended; chosen = true; batch = batch; leaves = leaves; holes = []; wants = last_1 }

  -- the epoch hasn't ended
  not_ended : (k : ℕ) (g : Gate) (y : RunFound) → IsOf generation y → EpochStays p t k y → GateMay g y.epoch_gate → Stands p f y (record s { epoch_gate = g })
  not_ended k g y of left may = (
    subst (λ (e : ℕ). Holds p f (record s { epoch_gate = g }) e) (sym left.0) (holds_rest p f s t.epoch s.generation s.generation_gate g s.logged s.maybe stands.0),
    record {
      generation = stands.1.generation ∙ ap (λ (n : ℕ). n % 2) (sym of.0);
      generation_gate = subst (λ (b : Bool). GateMay s.generation_gate b) (sym of.1) stands.1.generation_gate;
      epoch_gate = may;
      records = subst (λ (n : ℕ). RecordsMay s.logged s.maybe n) (sym left.2) stands.1.records;
      few = omega (arith, left.2);
    },
  )

  has_ended : (y : RunFound) → IsOf generation y → EpochEnded t y → Stands p f y ended
  has_ended y of left = (
    subst (λ (e : ℕ). Holds p f ended e) (sym left.0)
        (ended_holds p f (record s { epoch_gate = Closed }) t.epoch all (holds_rest p f s t.epoch s.generation s.generation_gate Closed s.logged s.maybe stands.0) leaves shown),
    record {
      generation = stands.1.generation ∙ ap (λ (n : ℕ). n % 2) (sym of.0);
      generation_gate = subst (λ (b : Bool). GateMay s.generation_gate b) (sym of.1) stands.1.generation_gate;
      epoch_gate = left.1;
      records = inl left.2;
      few = omega (arith, left.2);
    },
  )

  stays_then : (k : ℕ) (g : Gate) (ws : List Want) → ((y : RunFound) → IsGateLeft t.gate (suc (suc k)) y.epoch_gate → GateMay g y.epoch_gate) → EndLeft (suc (suc k)) (known_then g ws)
  stays_then k g ws may = λ y of left. (refl, (refl, not_ended (suc (suc k)) g y of left (may y left.1)))

  may_end : (y : RunFound) → IsOf generation y → EpochEnded t y ⊎ EpochStays p t 1 y → Stands p f y (record s { epoch_gate = Closed }) ⊎ ((ended.epoch ≡ other s.epoch) × Stands p f y ended)
  may_end y of (inl left) = inr (refl, has_ended y of left)
  may_end y of (inr left) = inl (not_ended 1 Closed y of left left.1)

  then_0 : Walk EndLeft end_then [] end_then
  then_0 = walk_none EndLeft end_then (λ y of left. up_stops p (Allows p f y) (at p ended 0 [] [] []) (refl, (refl, has_ended y of left)))

  then_1 : Walk EndLeft in_doubt (Sync ∷ []) end_then
  then_1 = walk_note EndLeft in_doubt end_then end_then Sync [] (refl, refl) (λ y of left. (refl, (refl, may_end y of left))) then_0

  then_2 : Walk EndLeft (known_then Closed last_2) (Write gate_then ∷ Sync ∷ []) end_then
  then_2 = walk_note EndLeft (known_then Closed last_2) in_doubt end_then (Write gate_then) (Sync ∷ []) (same_gate_then, refl) (stays_then 0 Closed last_2 (λ y left. left)) then_1

  then_3 : Walk EndLeft (known_then Closed last_3) (Sync ∷ Write gate_then ∷ Sync ∷ []) end_then
  then_3 = walk_note EndLeft (known_then Closed last_3) (known_then Closed last_2) end_then Sync (Write gate_then ∷ Sync ∷ []) (refl, refl) (stays_then 1 Closed last_3 (λ y left. left)) then_2

  then_4 : Walk EndLeft (known_then Closed last_4) (Write body_then ∷ Sync ∷ Write gate_then ∷ Sync ∷ []) end_then
  then_4 = walk_note EndLeft (known_then Closed last_4) (known_then Closed last_3) end_then (Write body_then) (Sync ∷ Write gate_then ∷ Sync ∷ []) (same_body_then, refl) (stays_then 2 Closed last_4 (λ y left. left)) then_3

  then_5 : Walk EndLeft (known_then Unsure last_5) (Sync ∷ Write body_then ∷ Sync ∷ Write gate_then ∷ Sync ∷ []) end_then
  then_5 = walk_note EndLeft (known_then Unsure last_5) (known_then Closed last_4) end_then Sync (Write body_then ∷ Sync ∷ Write gate_then ∷ Sync ∷ []) (refl, refl) (stays_then 3 Unsure last_5 (λ y left. tt)) then_4

  then_open : t.gate ≡ true → Walk EndLeft (known_then Open last_6) (set_twin p EpochTwin number true) end_then
  then_open is = walk_note EndLeft (known_then Open last_6) (known_then Unsure last_5) end_then (Write gate_then) (Sync ∷ Write body_then ∷ Sync ∷ Write gate_then ∷ Sync ∷ []) (same_gate_then, refl)
      (stays_then 4 Open last_6 (λ y left. left ∙ is)) then_5

  then_unsure : (was : Bool) → Walk EndLeft (known_then Unsure (Setting Epoch ∷ [])) (set_twin p EpochTwin number was) end_then
  then_unsure true = walk_note EndLeft (known_then Unsure (Setting Epoch ∷ [])) (known_then Unsure last_5) end_then (Write gate_then) (Sync ∷ Write body_then ∷ Sync ∷ Write gate_then ∷ Sync ∷ [])
      (inl (record { is = same_gate_then; then = refl })) (stays_then 4 Unsure (Setting Epoch ∷ []) (λ y left. tt)) then_5
  then_unsure false = walk_note EndLeft (known_then Unsure (Setting Epoch ∷ [])) (known_then Closed last_3) end_then (Write body_then) (Sync ∷ Write gate_then ∷ Sync ∷ [])
      (inr (record { is = same_body_then; then = refl })) (stays_then 2 Unsure (Setting Epoch ∷ []) (λ y left. tt)) then_3

  then_by : (g : Gate) → GateMay g t.gate → Walk EndLeft (taken_up (known_then g (sets p Epoch next_side g))) (set_twin p EpochTwin number t.gate) end_then
  then_by Open is = subst (λ (was : Bool). Walk EndLeft (known_then Open last_6) (set_twin p EpochTwin number was) end_then) (sym is) (then_open is)
  then_by Closed is = subst (λ (was : Bool). Walk EndLeft (known_then Closed last_4) (set_twin p EpochTwin number was) end_then) (sym is) then_4
  then_by Unsure is = then_unsure t.gate

  pub walk_epoch : Walk EndLeft (taken_up (at p s batch leaves [] (sets p Epoch next_side s.epoch_gate))) (set_twin p EpochTwin number t.gate) end_then
  walk_epoch = then_by s.epoch_gate stands.1.epoch_gate
