-- What is taken behind a whole epoch is a front of its end, and of the turns behind that.
use Rattle.std.specs.Prelude.{◌≡◌, ◌<◌, ◌≤◌, ◌⊎◌, ℕ, ◌+◌, ◌-◌, ◌%◌, Bool, true, false, cond, List, [], ◌++◌, length}
use Rattle.std.proofs.Common.{zero, suc, refl, sym, ap, ◌∙◌, subst, inl, inr, arith, append_assoc}
use Rattle.std.proofs.lemmas.List.{length-append}
use Rattle.std.proofs.lemmas.Bool.{le-ltb, cases_lt}
use Rattle.ob_base.specs.declared.params.Params.{Params}
use Rattle.ob_base.specs.Layout.{EpochTwin}
use Rattle.ob_store.specs.declared.watch.Note.{Note}
use Rattle.ob_schedule.specs.Paths.{by_falling_level}
use Rattle.ob_schedule.specs.Schedule.{check_cells, hole_reads, log_gates, set_twin, writes_of}
use Rattle.ob_schedule.specs.Holes.{Hole}
use Rattle.ob_schedule.specs.declared.want.Gate.{Gate}
use Rattle.ob_schedule.specs.declared.want.Gate.TheVariants.{Open}
use Rattle.ob_schedule.specs.declared.want.Register.TheVariants.{Epoch}
use Rattle.ob_schedule.specs.declared.want.Want.{Want}
use Rattle.ob_schedule.specs.Sides.{other, side_number}
use Rattle.ob_schedule.specs.Standing.{StandingKnown}
use Rattle.ob_schedule.specs.Wants.{sets, writes_anew, end_wants}
use Rattle.ob_schedule.specs.Follow.{Follow, taken_up}
use Rattle.ob_histories.specs.Fills.{AllFills, AreAllFills, public_at, fills_at, leaves_of_batches}
use Rattle.ob_histories.specs.Runs.{RunFound, HistoryTurn, notes_of_batch, notes_of_turn}
use Rattle.ob_histories.specs.Histories.{IsBatchLeft, IsEndLeft, IsTurnLeft}
use Rattle.ob_histories.proofs.Holes.{end_are}
use Rattle.ob_histories.proofs.Places.{at, rest_of}
use Rattle.ob_histories.proofs.Finding.{GateMay}
use Rattle.ob_histories.proofs.Sets.{IsOf}
use Rattle.ob_histories.proofs.Turns.{number, next_number, lifts, writes, known_writes, same_writes, same_lifts, loaded_end, wants_some, set_long, same_side}
use Rattle.ob_histories.proofs.Fronts.{Rest, Exactly, IsSure, Sure, Shown, Conv, conv_map, conv_kept, StaysAs, told_result, conv_holes}
use Rattle.ob_histories.proofs.FrontsSets.{EndLeft, AnyEndLeft, AnyEndMore, ended, ended_sure, conv_epoch}
use Rattle.ob_histories.proofs.FrontsTurns.{turn_at, end_same, may_true, may_one, Before, before_sure, start, Turns, is_of, stop_both, stop_turn, step_turn, Ahead, conv_batch}

module _ (p : Params) (f : AllFills) (all : AreAllFills p f) (generation : ℕ) where
  module _ (epoch r : ℕ) (s : StandingKnown) (is : Before p f all generation epoch p.batches r s) where
    abbrev t0 : HistoryTurn
    t0 = turn_at epoch p.batches 0 false

    abbrev ls : List ℕ
    ls = leaves_of_batches p f (suc epoch) p.batches

    abbrev lifted : List Hole
    lifted = lifts p f all t0 generation

    abbrev reads : List Note
    reads = hole_reads p (public_at p f epoch) (fills_at p f epoch) lifted

    abbrev written : List Note
    written = writes p f all t0 generation

    abbrev written_known : List Note
    written_known = known_writes p f all t0 generation s ls

    abbrev sets_by : Bool → List Note
    sets_by is_open = set_twin p EpochTwin (number p f all t0 generation) is_open

    abbrev Target : Shown p f
    Target = Turns p f all generation epoch p.batches r s.maybe s.epoch_gate

    abbrev rest : Rest
    rest = rest_of s

    abbrev sure : IsSure p generation rest
    sure = before_sure p f all generation epoch p.batches r s is

    all_logged : s.logged ≡ p.batches
    all_logged = go is.at_records
      where
        go : ((p.batches ≤ r) × (s.logged ≡ r)) ⊎ ((r ≤ p.batches) × ((s.logged ≡ p.batches) × (s.maybe ≡ false))) → s.logged ≡ p.batches
        go (inl a) = omega (arith, a.0, a.1, is.few)
        go (inr a) = a.1.0

    none_more : s.maybe ≡ false
    none_more = go s.maybe refl
      where
        go : (m : Bool) → s.maybe ≡ m → s.maybe ≡ false
        go false none = none
        go true maybe = (let low : s.logged < p.batches = is.more maybe in absurd (omega (arith, low, all_logged)))

    notes_are : (records : ℕ) (is_open : Bool) → reads ++ (written ++ sets_by is_open) ≡ notes_of_turn p f (turn_at epoch p.batches records is_open)
    notes_are records is_open = λ i. cond (sym (le-ltb p.batches p.batches (omega arith)) i) (notes_of_batch p f (turn_at epoch p.batches records is_open)) (reads ++ (written ++ sets_by is_open))

    end_left : (records : ℕ) (is_open : Bool) (n : ℕ) (y : RunFound) → IsEndLeft p (turn_at epoch p.batches records is_open) (length (notes_of_turn p f (turn_at epoch p.batches records is_open)) - n) y
        → IsTurnLeft p f (turn_at epoch p.batches records is_open) n y
    end_left records is_open n y left =
        subst (λ (c : Bool). cond c (IsBatchLeft p (turn_at epoch p.batches records is_open) n y) (IsEndLeft p (turn_at epoch p.batches records is_open) (length (notes_of_turn p f (turn_at epoch p.batches records is_open)) - n) y))
        (sym (le-ltb p.batches p.batches (omega arith))) left

    -- before the setting
    stop_early : (ms more : List Note) → ms ++ more ≡ reads ++ written → (y : RunFound) → Exactly epoch generation rest y → Target ms y y
    stop_early ms more front y found =
        let is_open : Bool = y.epoch_gate in
        let sets_then : List Note = sets_by is_open in
        let notes : List Note = notes_of_turn p f (turn_at epoch p.batches r is_open) in
        let whole : ms ++ (more ++ sets_then) ≡ notes =
        sym (append_assoc ms more sets_then) ∙ ap (λ (ns : List Note). ns ++ sets_then) front ∙ append_assoc reads written sets_then ∙ notes_are r is_open in
        let lacks : length notes - length ms ≡ length more + length sets_then = omega (arith, sym (ap (length {A = Note}) whole), length-append ms (more ++ sets_then), length-append more sets_then) in
        let long = set_long p (number p f all t0 generation) is_open in
        stop_turn p f all generation epoch p.batches r s.maybe s.epoch_gate r is_open ms (more ++ sets_then) y (inl refl) found.epoch_gate whole (is_of p f all generation epoch rest y is.opens found)
        (end_left r is_open (length ms) y (end_same p (turn_at epoch p.batches r is_open) y (length notes - length ms) (λ e. omega (arith, lacks, long.0 e)) (omega (arith, lacks, long.1)) found.at_epoch refl
        (may_one s.maybe s.logged y.records none_more found.records ∙ all_logged)))

    same_written : written_known ≡ written
    same_written = same_writes p f all t0 generation s ls is.holds refl

    -- in the setting
    stop_late : (was : Bool) → GateMay s.epoch_gate was → (ms more : List Note) → ms ++ more ≡ sets_by was → (y z : RunFound) → IsOf generation y → IsOf generation z
        → IsEndLeft p (turn_at epoch p.batches r was) (length more) y → IsEndLeft p (turn_at epoch p.batches r was) (length more) z → Target (reads ++ (written_known ++ ms)) y z
    stop_late was may ms more front y z of_y of_z left_y left_z =
        let t : HistoryTurn = turn_at epoch p.batches r was in
        let before : List Note = reads ++ (written_known ++ ms) in
        let notes : List Note = notes_of_turn p f t in
        let whole : before ++ more ≡ notes =
        append_assoc reads (written_known ++ ms) more ∙ ap (λ (ns : List Note). reads ++ ns) (append_assoc written_known ms more ∙ (λ i. same_written i ++ front i)) ∙ notes_are r was in
        let lacks : length more ≡ length notes - length before = omega (arith, sym (ap (length {A = Note}) whole), length-append before more) in
        stop_both p f all generation epoch p.batches r s.maybe s.epoch_gate r was before more y z (inl refl) may whole of_y of_z
        (end_left r was (length before) y (subst (λ (n : ℕ). IsEndLeft p t n y) lacks left_y)) (end_left r was (length before) z (subst (λ (n : ℕ). IsEndLeft p t n z) lacks left_z))

    module _ (s1 : StandingKnown) (stays : StaysAs p f epoch rest s1) where
      sure_1 : Sure p f epoch generation s1
      sure_1 = (stays.0, subst (λ (q : Rest). IsSure p generation q) (sym stays.1) sure)

      logged_1 : s1.logged ≡ p.batches
      logged_1 = ap (λ (q : Rest). q.1.1.1.0) stays.1 ∙ all_logged

      none_1 : s1.maybe ≡ false
      none_1 = ap (λ (q : Rest). q.1.1.1.1) stays.1 ∙ none_more

      open_1 : s1.generation_gate ≡ Open
      open_1 = ap (λ (q : Rest). q.1.0) stays.1 ∙ is.opens

      gate_1 : s1.epoch_gate ≡ s.epoch_gate
      gate_1 = ap (λ (q : Rest). q.1.1.0) stays.1

      next_1 : number p f all t0 generation % 2 ≡ suc epoch % 2
      next_1 = next_number p f all t0 generation

      abbrev After : Shown p f
      After = λ ms y z. Target (reads ++ (written_known ++ ms)) y z

      may_1 : (was : Bool) → GateMay s1.epoch_gate was → GateMay s.epoch_gate was
      may_1 was may = subst (λ (g : Gate). GateMay g was) gate_1 may

      end_stops : AnyEndLeft p f all epoch generation (number p f all t0 generation) s1 sure_1 logged_1 none_1 p.batches ls refl next_1 s1.epoch_gate After
      end_stops was may ms more front = by (length more) refl
        where
          by : (n : ℕ) → length more ≡ n → EndLeft p f all epoch generation (number p f all t0 generation) s1 sure_1 logged_1 none_1 p.batches ls refl next_1 was After ms n
          by zero lacks = tt
          by (suc zero) lacks = λ y z but closed behind.
              stop_late was (may_1 was may) ms more front y z (but.of_generation, may_true s1.generation_gate y.generation_gate open_1 but.generation_gate) (behind.of_generation, may_true s1.generation_gate z.generation_gate open_1 behind.generation_gate)
              (subst (λ (n : ℕ). IsEndLeft p (turn_at epoch p.batches r was) n y) (sym lacks) (inr (but.at_epoch, closed, but.records))) (subst (λ (n : ℕ). IsEndLeft p (turn_at epoch p.batches r was) n z) (sym lacks) (inl (behind.at_epoch, behind.epoch_gate, behind.records)))
          by (suc (suc n)) lacks = λ y but left.
              (let of : IsOf generation y = (but.of_generation, may_true s1.generation_gate y.generation_gate open_1 but.generation_gate) in
              let ends : IsEndLeft p (turn_at epoch p.batches r was) (length more) y = subst (λ (n : ℕ). IsEndLeft p (turn_at epoch p.batches r was) n y) (sym lacks) (but.at_epoch, left, but.records) in
              stop_late was (may_1 was may) ms more front y y of of ends ends)

      abbrev ended_1 : StandingKnown
      ended_1 = ended p f all epoch generation (number p f all t0 generation) s1 sure_1 logged_1 none_1 p.batches ls refl next_1

      before_1 : Before p f all generation (suc epoch) 0 0 ended_1
      before_1 =
          let known = ended_sure p f all epoch generation (number p f all t0 generation) s1 sure_1 logged_1 none_1 p.batches ls refl next_1 in
          record { holds = known.0; side = known.1.side; opens = open_1; at_records = inl (omega arith, refl); low = omega arith; few = omega arith; more = known.1.more }

      end_more : (most : ℕ) → Ahead p f all generation most → AnyEndMore p f all epoch generation (number p f all t0 generation) s1 sure_1 logged_1 none_1 p.batches ls refl next_1 most s1.epoch_gate After
      end_more most ahead was may =
          conv_map p f most (suc epoch) (start p f all generation (suc epoch) 0 ended_1) (Turns p f all generation (suc epoch) 0 0 false Open) (λ ms y z. After (sets_by was ++ ms) y z)
          (λ ms y z then. (let same : (reads ++ (written ++ sets_by was)) ++ ms ≡ reads ++ (written_known ++ (sets_by was ++ ms)) =
          append_assoc reads (written ++ sets_by was) ms ∙ ap (λ (ns : List Note). reads ++ ns) (append_assoc written (sets_by was) ms ∙ ap (λ (ns : List Note). ns ++ (sets_by was ++ ms)) (sym same_written)) in
          let none : then.records ≡ 0 = may_one false 0 then.records refl then.may_records in
          let opened : then.is_open ≡ true = then.may_gate in
          subst (λ (ns : List Note). Target ns y z) same
          (step_turn p f all generation epoch p.batches r s.maybe s.epoch_gate (suc epoch) 0 0 false Open (reads ++ (written ++ sets_by was)) ms y z then r was (inl refl) (may_1 was may) (notes_are r was)
          (ap (λ (c : Bool). cond c (turn_at epoch (suc p.batches) r was) (turn_at (suc epoch) 0 0 true)) (le-ltb p.batches p.batches (omega arith)) ∙ (λ i. turn_at (suc epoch) 0 (sym none i) (sym opened i))))))
          (ahead (suc epoch) 0 0 ended_1 before_1)

      conv_setting : (most : ℕ) → Ahead p f all generation most → Conv p f (suc most) epoch (taken_up (at p s1 p.batches ls [] (sets p Epoch (other s.epoch) s.epoch_gate))) After
      conv_setting most ahead =
          let same : s1.epoch ≡ s.epoch = same_side s1.epoch s.epoch (stays.0.side ∙ sym is.holds.side) in
          subst (λ (ws : List Want). Conv p f (suc most) epoch (taken_up (at p s1 p.batches ls [] ws)) After) (λ i. sets p Epoch (other (same i)) (gate_1 i))
          (conv_epoch p f all epoch generation (number p f all t0 generation) s1 sure_1 logged_1 none_1 p.batches ls refl next_1 most After end_stops (end_more most ahead))

    conv_end : (most : ℕ) → Ahead p f all generation most → Conv p f (suc most) epoch (start p f all generation epoch p.batches s) Target
    conv_end most ahead =
        let wants : List Want = end_wants p s ls in
        let set_wants : List Want = sets p Epoch (other s.epoch) s.epoch_gate in
        let there : start p f all generation epoch p.batches s ≡ taken_up (at p s p.batches ls lifted wants) =
        loaded_end p f all t0 generation s ls refl refl ∙ ap (λ (hs : List Hole). at p s p.batches ls hs wants) (same_lifts p f all t0 generation s ls is.holds refl)
        ∙ wants_some (writes_anew p s ls (by_falling_level (p.levels + 1)) ++ writes_of (check_cells p (side_number (other s.epoch))) ++ writes_of (log_gates p (side_number s.epoch))) set_wants p s p.batches ls lifted in
        subst (λ (g : Follow). Conv p f (suc most) epoch g Target) (sym there)
        (conv_holes p f all epoch generation rest sure (suc most) s p.batches ls lifted wants Target (is.holds, refl) (end_are p f epoch)
        (λ ms more front some y found. stop_early ms (more ++ written) (sym (append_assoc ms more written) ∙ ap (λ (ns : List Note). ns ++ written) front) y found)
        (λ s1 stays. conv_kept p f (suc most) epoch (at p s1 p.batches ls [] []) written_known set_wants (λ ms y z. Target (reads ++ ms) y z)
        (λ ms more front some. told_result p f epoch generation rest s1 p.batches ls [] [] (λ ns y z. Target (reads ++ ns) y z) ms stays sure
        (λ y found. stop_early (reads ++ ms) more (append_assoc reads ms more ∙ ap (λ (ns : List Note). reads ++ ns) (front ∙ same_written)) y found))
        (conv_setting s1 stays most ahead)))

  -- any turn
  pub conv_turns : (most : ℕ) → Ahead p f all generation most
  conv_turns zero epoch b r s is = λ ms k then few. absurd (omega (arith, few))
  conv_turns (suc most) epoch b r s is = go (conv_turns most) (cases_lt b p.batches)
    where
      go : Ahead p f all generation most → (b < p.batches) ⊎ (p.batches ≤ b) → Conv p f (suc most) epoch (start p f all generation epoch b s) (Turns p f all generation epoch b r s.maybe s.epoch_gate)
      go ahead (inl low) = conv_batch p f all generation epoch b r low most s ahead is
      go ahead (inr high) =
          (let last : b ≡ p.batches = omega (arith, high, is.low) in
          subst (λ (n : ℕ). Before p f all generation epoch n r s → Conv p f (suc most) epoch (start p f all generation epoch n s) (Turns p f all generation epoch n r s.maybe s.epoch_gate)) (sym last)
          (λ there. conv_end epoch r s there most ahead) is)
