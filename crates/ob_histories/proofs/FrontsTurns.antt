-- What is taken behind an opening is a front of turns, by what is found behind it.
use Rattle.std.specs.Prelude.{◌≡◌, ◌<◌, ◌≤◌, ◌⊎◌, ℕ, ◌+◌, ◌-◌, ◌%◌, ◌==◌, ◌&&◌, Bool, true, false, cond, List, [], ◌∷◌, ◌++◌, map, take, drop, length}
use Rattle.std.specs.List.{flat_map, range_with_len}
use Rattle.std.proofs.Common.{zero, suc, refl, sym, ap, ◌∙◌, subst, subst₂, inl, inr, arith, append_assoc, add-one}
use Rattle.std.proofs.lemmas.List.{length-append}
use Rattle.std.proofs.lemmas.Bool.{lt-ltb, le-ltb, cases_lt}
use Rattle.ob_base.specs.declared.params.Params.{Params}
use Rattle.ob_base.specs.Layout.{log_cell, log_gate}
use Rattle.ob_store.specs.declared.watch.Note.{Note}
use Rattle.ob_store.specs.declared.watch.Note.TheVariants.{Label, Write, Sync}
use Rattle.ob_schedule.specs.Schedule.{batch_leaves, counts_now, phase_notes, record_notes}
use Rattle.ob_schedule.specs.Holes.{place_holes}
use Rattle.ob_schedule.specs.declared.want.Gate.{Gate}
use Rattle.ob_schedule.specs.declared.want.Gate.TheVariants.{Open}
use Rattle.ob_schedule.specs.declared.want.Change.TheVariants.{Keeps, MayLog, Logs}
use Rattle.ob_schedule.specs.declared.want.Want.{Want}
use Rattle.ob_schedule.specs.declared.want.Want.TheVariants.{Fixed, Place, Record}
use Rattle.ob_schedule.specs.Sides.{other, side_number}
use Rattle.ob_schedule.specs.Standing.{StandingKnown, public_known, with_label}
use Rattle.ob_schedule.specs.Wants.{places, record_wants}
use Rattle.ob_schedule.specs.Follow.{Follow, taken_up}
use Rattle.ob_histories.specs.Fills.{AllFills, AreAllFills, public_at, public_in_epoch, fills_at, leaves_of_batches}
use Rattle.ob_histories.specs.Runs.{RunFound, HistoryTurn, next_turn, turn_behind, notes_of_end, notes_of_turn, notes_from}
use Rattle.ob_histories.specs.Histories.{AreRecordsLeft, IsBatchLeft, IsEndLeft, IsTurnLeft, IsGateLeft}
use Rattle.ob_histories.proofs.Standing.{Holds}
use Rattle.ob_histories.proofs.Places.{at, rest_of, leaf_at, one_more}
use Rattle.ob_histories.proofs.Finding.{GateMay, RecordsMay, holds_rest}
use Rattle.ob_histories.proofs.Sets.{IsOf}
use Rattle.ob_histories.proofs.Batches.{loaded, many, all_places, are_places, are_notes, begun, first_places, parts, some_writes, more_wants, are_record, split_wants, record_wants_of, record_next, same_area}
use Rattle.ob_histories.proofs.Turns.{record_long}
use Rattle.ob_histories.proofs.Fronts.{Rest, Fronts, front_left, front_right, is_front, Exactly, IsSure, Shown, Result, Conv, conv_weak, conv_along, conv_map}
use Rattle.ob_histories.proofs.Fronts.{conv_note, OneOf, conv_either_strict, conv_kept, StaysAs, Told, told_result, conv_reads, conv_place, conv_places, leaf_of, behind_label, notes_at, holes_at}

abbrev pub turn_at : ℕ → ℕ → ℕ → Bool → HistoryTurn
turn_at epoch batch records is_open = record { epoch = epoch; batch = batch; records = records; gate = is_open }

left_same : (batch n : ℕ) → 2 ≤ n → AreRecordsLeft batch n batch
left_same batch zero two = absurd (omega (arith, two))
left_same batch (suc zero) two = absurd (omega (arith, two))
left_same batch (suc (suc n)) two = refl

gate_same : (was : Bool) (n : ℕ) → (was ≡ true → 6 ≤ n) → 4 ≤ n → IsGateLeft was n was
gate_same true zero six four = absurd (omega (arith, four))
gate_same true (suc zero) six four = absurd (omega (arith, four))
gate_same true (suc (suc zero)) six four = absurd (omega (arith, four))
gate_same true (suc (suc (suc zero))) six four = absurd (omega (arith, four))
gate_same true (suc (suc (suc (suc zero)))) six four = absurd (omega (arith, six refl))
gate_same true (suc (suc (suc (suc (suc zero))))) six four = absurd (omega (arith, six refl))
gate_same true (suc (suc (suc (suc (suc (suc n)))))) six four = refl
gate_same false zero six four = absurd (omega (arith, four))
gate_same false (suc zero) six four = refl
gate_same false (suc (suc zero)) six four = refl
gate_same false (suc (suc (suc zero))) six four = refl
gate_same false (suc (suc (suc (suc zero)))) six four = refl
gate_same false (suc (suc (suc (suc (suc zero))))) six four = λ is. is
gate_same false (suc (suc (suc (suc (suc (suc n)))))) six four = refl

pub end_same : (p : Params) (t : HistoryTurn) (y : RunFound) (n : ℕ) → (t.gate ≡ true → 6 ≤ n) → 4 ≤ n → y.epoch ≡ t.epoch → y.epoch_gate ≡ t.gate → y.records ≡ p.batches → IsEndLeft p t n y
end_same p t y zero six four epoch gate records = absurd (omega (arith, four))
end_same p t y (suc zero) six four epoch gate records = absurd (omega (arith, four))
end_same p t y (suc (suc n)) six four epoch gate records = (epoch, subst (λ (b : Bool). IsGateLeft t.gate (suc (suc n)) b) (sym gate) (gate_same t.gate (suc (suc n)) six four), records)

pub may_true : (g : Gate) (is : Bool) → g ≡ Open → GateMay g is → is ≡ true
may_true g is opens may = subst (λ (h : Gate). GateMay h is) opens may

pub may_one : (maybe : Bool) (logged records : ℕ) → maybe ≡ false → RecordsMay logged maybe records → records ≡ logged
may_one maybe logged records none (inl same) = same
may_one maybe logged records none (inr one) = absurd (let never : true ≡ false = sym one.0 ∙ none in cc)

module _ (p : Params) (f : AllFills) (all : AreAllFills p f) (generation : ℕ) where
  -- before a turn, where so many records were opens for sure when the run began
  pub record Before (epoch b r : ℕ) (s : StandingKnown) : Type 0 where
    pub holds : Holds p f s epoch
    pub side : side_number s.generation ≡ generation % 2
    pub opens : s.generation_gate ≡ Open
    pub at_records : ((b ≤ r) × (s.logged ≡ r)) ⊎ ((r ≤ b) × ((s.logged ≡ b) × (s.maybe ≡ false)))
    pub low : b ≤ p.batches
    pub few : r ≤ p.batches
    pub more : s.maybe ≡ true → s.logged < p.batches

  abbrev pub start : ℕ → ℕ → StandingKnown → Follow
  start epoch b s = taken_up (at p s b (leaves_of_batches p f (suc epoch) b) [] [])

  -- a front of turns, and what is found behind it
  pub record Turns (epoch b r : ℕ) (maybe : Bool) (gate : Gate) (ms : List Note) (y z : RunFound) : Type 0 where
    pub records : ℕ
    pub is_open : Bool
    pub steps : ℕ
    pub shown : ℕ
    pub may_records : RecordsMay r maybe records
    pub may_gate : GateMay gate is_open
    pub are : ms ≡ notes_from p f (turn_at epoch b records is_open) steps shown
    pub of_y : IsOf generation y
    pub of_z : IsOf generation z
    pub left_y : IsTurnLeft p f (turn_behind p (turn_at epoch b records is_open) steps) shown y
    pub left_z : IsTurnLeft p f (turn_behind p (turn_at epoch b records is_open) steps) shown z

  few_logged : (epoch b r : ℕ) (s : StandingKnown) → Before epoch b r s → s.logged ≤ p.batches
  few_logged epoch b r s is = go is.at_records
    where
      go : ((b ≤ r) × (s.logged ≡ r)) ⊎ ((r ≤ b) × ((s.logged ≡ b) × (s.maybe ≡ false))) → s.logged ≤ p.batches
      go (inl a) = omega (arith, a.1, is.few)
      go (inr a) = omega (arith, a.1.0, is.low)

  pub before_sure : (epoch b r : ℕ) (s : StandingKnown) → Before epoch b r s → IsSure p generation (rest_of s)
  before_sure epoch b r s is = record { side = is.side; few = few_logged epoch b r s is; more = is.more }

  pub is_of : (epoch : ℕ) (rest : Rest) (y : RunFound) → rest.1.0 ≡ Open → Exactly epoch generation rest y → IsOf generation y
  is_of epoch rest y opens is = (is.of_generation, may_true rest.1.0 y.generation_gate opens is.generation_gate)

  pub stop_both : (epoch b r : ℕ) (maybe : Bool) (gate : Gate) (records : ℕ) (is_open : Bool) (ms rest : List Note) (y z : RunFound) → RecordsMay r maybe records → GateMay gate is_open
      → ms ++ rest ≡ notes_of_turn p f (turn_at epoch b records is_open) → IsOf generation y → IsOf generation z → IsTurnLeft p f (turn_at epoch b records is_open) (length ms) y → IsTurnLeft p f (turn_at epoch b records is_open) (length ms) z
      → Turns epoch b r maybe gate ms y z
  stop_both epoch b r maybe gate records is_open ms rest y z may_records may_gate is of_y of_z left_y left_z = record {
    records = records;
    is_open = is_open;
    steps = 0;
    shown = length ms;
    may_records = may_records;
    may_gate = may_gate;
    are = sym (subst (λ (ns : List Note). take (length ms) ns ≡ ms) is (is_front ms rest));
    of_y = of_y;
    of_z = of_z;
    left_y = left_y;
    left_z = left_z;
  }

  pub stop_turn : (epoch b r : ℕ) (maybe : Bool) (gate : Gate) (records : ℕ) (is_open : Bool) (ms rest : List Note) (y : RunFound) → RecordsMay r maybe records → GateMay gate is_open
      → ms ++ rest ≡ notes_of_turn p f (turn_at epoch b records is_open) → IsOf generation y → IsTurnLeft p f (turn_at epoch b records is_open) (length ms) y → Turns epoch b r maybe gate ms y y
  stop_turn epoch b r maybe gate records is_open ms rest y may_records may_gate is of left = stop_both epoch b r maybe gate records is_open ms rest y y may_records may_gate is of of left left

  -- a whole turn before it
  pub step_turn : (epoch b r : ℕ) (maybe : Bool) (gate : Gate) (epoch_then b_then r_then : ℕ) (maybe_then : Bool) (gate_then : Gate) (notes ms : List Note) (y z : RunFound)
      → (t : Turns epoch_then b_then r_then maybe_then gate_then ms y z) → (records : ℕ) (is_open : Bool) → RecordsMay r maybe records → GateMay gate is_open
      → notes ≡ notes_of_turn p f (turn_at epoch b records is_open) → next_turn p (turn_at epoch b records is_open) ≡ turn_at epoch_then b_then t.records t.is_open → Turns epoch b r maybe gate (notes ++ ms) y z
  step_turn epoch b r maybe gate epoch_then b_then r_then maybe_then gate_then notes ms y z t records is_open may_records may_gate same next = record {
    records = records;
    is_open = is_open;
    steps = suc t.steps;
    shown = t.shown;
    may_records = may_records;
    may_gate = may_gate;
    are = (λ i. same i ++ t.are i) ∙ ap (λ (u : HistoryTurn). notes_of_turn p f (turn_at epoch b records is_open) ++ notes_from p f u t.steps t.shown) (sym next);
    of_y = t.of_y;
    of_z = t.of_z;
    left_y = subst (λ (u : HistoryTurn). IsTurnLeft p f (turn_behind p u t.steps) t.shown y) (sym next) t.left_y;
    left_z = subst (λ (u : HistoryTurn). IsTurnLeft p f (turn_behind p u t.steps) t.shown z) (sym next) t.left_z;
  }

  abbrev pub Ahead : ℕ → Type 0
  Ahead most = (epoch b r : ℕ) (s : StandingKnown) → Before epoch b r s → Conv p f most epoch (start epoch b s) (Turns epoch b r s.maybe s.epoch_gate)

  -- ---- a batch

  module _ (epoch b r : ℕ) (low : b < p.batches) where
    abbrev t0 : HistoryTurn
    t0 = turn_at epoch b 0 false

    abbrev ls : List ℕ
    ls = leaves_of_batches p f (suc epoch) b

    abbrev shows : List Note
    shows = phase_notes p (public_in_epoch p f epoch b) (fills_at p f epoch) (batch_leaves p (fills_at p f epoch) b)

    abbrev records_all : List Note
    records_all = record_notes p (((public_at p f epoch).epoch + 1) % 2) b

    next_batch : (records : ℕ) (is_open : Bool) → next_turn p (turn_at epoch b records is_open) ≡ turn_at epoch (suc b) records is_open
    next_batch records is_open = ap (λ (c : Bool). cond c (turn_at epoch (suc b) records is_open) (turn_at (suc epoch) 0 0 true)) (lt-ltb b p.batches low)

    batch_left : (t : HistoryTurn) (n : ℕ) (y : RunFound) → t.batch ≡ b → IsBatchLeft p t n y → IsTurnLeft p f t n y
    batch_left t n y is left = subst (λ (c : Bool). cond c (IsBatchLeft p t n y) (IsEndLeft p t (length (notes_of_turn p f t) - n) y)) (sym (lt-ltb t.batch p.batches (omega (arith, is, low)))) left

    repeated_notes : (records : ℕ) (is_open : Bool) → b < records → shows ≡ notes_of_turn p f (turn_at epoch b records is_open)
    repeated_notes records is_open more = λ i. cond (sym (lt-ltb b p.batches low) i) (cond (sym (lt-ltb b records more) i) shows (records_all ++ shows)) (notes_of_end p f (turn_at epoch b records is_open))

    begun_notes : (records : ℕ) (is_open : Bool) → records ≤ b → records_all ++ shows ≡ notes_of_turn p f (turn_at epoch b records is_open)
    begun_notes records is_open few = λ i. cond (sym (lt-ltb b p.batches low) i) (cond (sym (le-ltb b records few) i) shows (records_all ++ shows)) (notes_of_end p f (turn_at epoch b records is_open))

    stop_repeated : (maybe : Bool) (gate : Gate) (ms rest : List Note) (y : RunFound) → b < y.records → RecordsMay r maybe y.records → GateMay gate y.epoch_gate → ms ++ rest ≡ shows → IsOf generation y → y.epoch ≡ epoch → Turns epoch b r maybe gate ms y y
    stop_repeated maybe gate ms rest y more may_records may_gate is of at_epoch =
        stop_turn epoch b r maybe gate y.records y.epoch_gate ms rest y may_records may_gate (is ∙ repeated_notes y.records y.epoch_gate more) of
        (batch_left (turn_at epoch b y.records y.epoch_gate) (length ms) y refl (
          at_epoch,
          refl,
          subst (λ (c : Bool). cond c (y.records ≡ y.records) (AreRecordsLeft b (length (record_notes p 0 b) - length ms) y.records)) (sym (lt-ltb b y.records more)) refl,
        ))

    stop_begun : (maybe : Bool) (gate : Gate) (ms rest : List Note) (y : RunFound) → r ≤ b → GateMay gate y.epoch_gate → ms ++ rest ≡ records_all ++ shows → IsOf generation y → y.epoch ≡ epoch
        → AreRecordsLeft b (length rest - length shows) y.records → Turns epoch b r maybe gate ms y y
    stop_begun maybe gate ms rest y few may_gate is of at_epoch left =
        let lacks : length rest - length shows ≡ length (record_notes p 0 b) - length ms =
        omega (arith, length-append ms rest, ap (length {A = Note}) is, length-append records_all shows, record_long p f all t0 generation 0 (((public_at p f epoch).epoch + 1) % 2)) in
        stop_turn epoch b r maybe gate r y.epoch_gate ms rest y (inl refl) may_gate (is ∙ begun_notes r y.epoch_gate few) of
        (batch_left (turn_at epoch b r y.epoch_gate) (length ms) y refl (
          at_epoch,
          refl,
          subst (λ (c : Bool). cond c (y.records ≡ r) (AreRecordsLeft b (length (record_notes p 0 b) - length ms) y.records)) (sym (le-ltb b r few)) (subst (λ (n : ℕ). AreRecordsLeft b n y.records) lacks left),
        ))

    -- the places of a batch
    conv_phase : (most : ℕ) (s : StandingKnown) (P : Shown p f) → Holds p f s epoch → IsSure p generation (rest_of s) → Fronts shows (Told p f epoch generation (rest_of s) P)
        → ((t : StandingKnown) → StaysAs p f epoch (rest_of s) t → Conv p f most epoch (start epoch (suc b) t) (λ ms y z. P (shows ++ ms) y z))
        → Conv p f (suc most) epoch (at p s (b + 1) ls [] (first_places p f all t0 generation low)) P
    conv_phase most s P holds sure stops more =
        let rest : Rest = rest_of s in
        let n : ℕ = many p f all t0 generation low in
        let some : p.places ≡ suc n = all_places p f all t0 generation low in
        let xs : List Note = notes_at p f all epoch generation rest sure b 0 in
        let ys : List Note = flat_map (notes_at p f all epoch generation rest sure b) (range_with_len 1 n) in
        let are : xs ++ ys ≡ shows = are_notes p f all t0 generation low rest in
        let these : Fronts (xs ++ ys) (Told p f epoch generation rest P) = subst (λ (ns : List Note). Fronts ns (Told p f epoch generation rest P)) (sym are) stops in
        let none : ls ≡ ls ++ take 0 (batch_leaves p (fills_at p f epoch) b) = begun p f all t0 generation low in
        conv_place p f all epoch generation rest sure most s (b + 1) b 0 ls (map (λ j. Place b j) (range_with_len 1 n)) P (holds, refl) low (omega (arith, some)) none (front_left (Told p f epoch generation rest P) xs ys these)
        (λ t stays. conv_places p f all epoch generation rest sure n most t (b + 1) b 1 (ls ++ leaf_of p f all epoch generation rest sure b 0 ∷ []) (λ ms y z. P (xs ++ ms) y z) stays low (omega (arith, some))
        (one_more p f all epoch rest b 0 ls (omega (arith, some)) none) (front_right (Told p f epoch generation rest P) xs ys these)
        (λ u still. conv_along p f most epoch (taken_up (at p u (b + 1) (leaves_of_batches p f (suc epoch) (suc b)) [] [])) P (λ ms. shows ++ ms) (λ ms. xs ++ (ys ++ ms)) (λ ms. ap (λ (ns : List Note). ns ++ ms) (sym are) ∙ append_assoc xs ys ms)
        (subst (λ (c : ℕ). Conv p f most epoch (taken_up (at p u c (leaves_of_batches p f (suc epoch) (suc b)) [] [])) (λ ms y z. P (shows ++ ms) y z)) (sym (add-one b)) (more u still))))

    -- what is known behind it
    behind_batch : (s t : StandingKnown) (r_then : ℕ) → StaysAs p f epoch (rest_of s) t → side_number s.generation ≡ generation % 2 → s.generation_gate ≡ Open
        → (((suc b ≤ r_then) × (s.logged ≡ r_then)) ⊎ ((r_then ≤ suc b) × ((s.logged ≡ suc b) × (s.maybe ≡ false)))) → r_then ≤ p.batches → (s.maybe ≡ true → s.logged < p.batches) → Before epoch (suc b) r_then t
    behind_batch s t r_then stays side opens at_records few more = record {
      holds = stays.0;
      side = subst (λ (q : Rest). side_number q.0 ≡ generation % 2) (sym stays.1) side;
      opens = ap (λ (q : Rest). q.1.0) stays.1 ∙ opens;
      at_records = subst (λ (q : Rest). ((suc b ≤ r_then) × (q.1.1.1.0 ≡ r_then)) ⊎ ((r_then ≤ suc b) × ((q.1.1.1.0 ≡ suc b) × (q.1.1.1.1 ≡ false)))) (sym stays.1) at_records;
      low = omega (arith, low);
      few = few;
      more = subst (λ (q : Rest). q.1.1.1.1 ≡ true → q.1.1.1.0 < p.batches) (sym stays.1) more;
    }

    -- a batch that is logged for sure
    conv_repeated : (most : ℕ) (s : StandingKnown) → Ahead most → Before epoch b r s → b < r → s.logged ≡ r → Conv p f (suc most) epoch (start epoch b s) (Turns epoch b r s.maybe s.epoch_gate)
    conv_repeated most s ahead is sure logged =
        let P : Shown p f = Turns epoch b r s.maybe s.epoch_gate in
        let wants = ap (λ (c : Bool). cond c (places p b) (cond ((b == s.logged) && s.maybe) (Record b ∷ []) (record_wants p (other s.epoch) b ++ places p b))) (lt-ltb b s.logged (omega (arith, sure, logged))) ∙ are_places p f all t0 generation low in
        subst (λ (g : Follow). Conv p f (suc most) epoch g P) (sym (loaded p f all t0 generation low s (first_places p f all t0 generation low) wants))
        (conv_phase most s P is.holds (before_sure epoch b r s is)
        (λ ms rest front some y found. stop_repeated s.maybe s.epoch_gate ms rest y (more_records y.records found.records) (subst (λ (n : ℕ). RecordsMay n s.maybe y.records) logged found.records) found.epoch_gate front (is_of epoch (rest_of s) y is.opens found) found.at_epoch)
        (λ t stays. conv_map p f most epoch (start epoch (suc b) t) (Turns epoch (suc b) r t.maybe t.epoch_gate) (λ ms y z. P (shows ++ ms) y z)
        (λ ms y z then. (let may : RecordsMay r s.maybe then.records = subst (λ (m : Bool). RecordsMay r m then.records) (ap (λ (q : Rest). q.1.1.1.1) stays.1) then.may_records in
        step_turn epoch b r s.maybe s.epoch_gate epoch (suc b) r t.maybe t.epoch_gate shows ms y z then then.records then.is_open may (subst (λ (g : Gate). GateMay g then.is_open) (ap (λ (q : Rest). q.1.1.0) stays.1) then.may_gate)
        (repeated_notes then.records then.is_open (at_least then.records may)) (next_batch then.records then.is_open)))
        (ahead epoch (suc b) r t (behind_batch s t r stays is.side is.opens (inl (omega (arith, sure), logged)) is.few is.more))))
      where
        more_records : (records : ℕ) → RecordsMay s.logged s.maybe records → b < records
        more_records records (inl same) = omega (arith, same, logged, sure)
        more_records records (inr one) = omega (arith, one.1, logged, sure)

        at_least : (records : ℕ) → RecordsMay r s.maybe records → b < records
        at_least records (inl same) = omega (arith, same, sure)
        at_least records (inr one) = omega (arith, one.1, sure)

    -- ---- a batch that is begun

    module _ (s : StandingKnown) (is : Before epoch b r s) (logged : s.logged ≡ b) (few : r ≤ b) where
      abbrev logging : ℕ → Bool → StandingKnown
      logging n maybe = record s { logged = n; maybe = maybe }

      abbrev writes_more : List Note
      writes_more = some_writes p f all t0 generation low s 1 (parts p f all t0 generation low)

      abbrev first_write : Note
      first_write = Write (log_cell p (side_number (other s.epoch)) b 0)

      abbrev gate_write : Note
      gate_write = Write (log_gate p (side_number (other s.epoch)) b)

      abbrev gates : List Note
      gates = Sync ∷ gate_write ∷ Sync ∷ []

      abbrev whole : List Note
      whole = (first_write ∷ (writes_more ++ gates)) ++ shows

      are_whole : whole ≡ records_all ++ shows
      are_whole = ap (λ (ns : List Note). ns ++ shows) (are_record p f all t0 generation low s ∙ ap (λ (a : ℕ). record_notes p a b) (same_area p f all t0 generation low s is.holds))

      abbrev Target : Shown p f
      Target = Turns epoch b r s.maybe s.epoch_gate

      logging_sure : (n : ℕ) (maybe : Bool) → n ≤ p.batches → (maybe ≡ true → n < p.batches) → IsSure p generation (rest_of (logging n maybe))
      logging_sure n maybe small more = record { side = is.side; few = small; more = more }

      logging_holds : (n : ℕ) (maybe : Bool) → Holds p f (logging n maybe) epoch
      logging_holds n maybe = holds_rest p f s epoch s.generation s.generation_gate s.epoch_gate n maybe is.holds

      -- a stop, by how many records may be opens
      stop_logging : (n : ℕ) (maybe : Bool) (wants : List Want) (ms rest : List Note) → n ≤ p.batches → (maybe ≡ true → n < p.batches) → ms ++ rest ≡ whole
          → ((records : ℕ) → RecordsMay n maybe records → AreRecordsLeft b (length rest - length shows) records) → Result p f epoch (at p (logging n maybe) (b + 1) ls [] wants) Target ms
      stop_logging n maybe wants ms rest small more front left =
          told_result p f epoch generation (rest_of (logging n maybe)) (logging n maybe) (b + 1) ls [] wants Target ms (logging_holds n maybe, refl) (logging_sure n maybe small more)
          (λ y found. stop_begun s.maybe s.epoch_gate ms rest y few found.epoch_gate (front ∙ are_whole) (is_of epoch (rest_of (logging n maybe)) y is.opens found) found.at_epoch (left y.records found.records))

      none_more : (n : ℕ) → 2 ≤ n → (records : ℕ) → RecordsMay b false records → AreRecordsLeft b n records
      none_more n two records may = subst (λ (m : ℕ). AreRecordsLeft b n m) (sym (may_one false b records refl may)) (left_same b n two)

      behind_writes : (ms rest : List Note) → ms ++ rest ≡ gates ++ shows → (first_write ∷ (writes_more ++ ms)) ++ rest ≡ whole
      behind_writes ms rest front = ap (λ (ns : List Note). first_write ∷ ns) (append_assoc writes_more ms rest ∙ ap (λ (ns : List Note). writes_more ++ ns) front ∙ sym (append_assoc writes_more gates shows))

      either_record : (records : ℕ) → RecordsMay b true records → (records ≡ b) ⊎ (records ≡ suc b)
      either_record records (inl same) = inl same
      either_record records (inr one) = inr one.1

      abbrev last_want : List Want
      last_want = Fixed Sync Logs ∷ places p b

      abbrev mid_want : List Want
      mid_want = Fixed gate_write MayLog ∷ last_want

      -- the places of the batch, behind its record
      conv_shows : (most : ℕ) → Ahead most → Conv p f (suc most) epoch (taken_up (at p (logging (b + 1) false) (b + 1) ls [] (places p b))) (λ ms y z. Target (first_write ∷ (writes_more ++ (gates ++ ms))) y z)
      conv_shows most ahead =
          let s2 : StandingKnown = logging (b + 1) false in
          let P : Shown p f = (λ ms y z. Target (first_write ∷ (writes_more ++ (gates ++ ms))) y z) in
          subst (λ (ws : List Want). Conv p f (suc most) epoch (taken_up (at p s2 (b + 1) ls [] ws)) P) (sym (are_places p f all t0 generation low))
          (conv_phase most s2 P (logging_holds (b + 1) false) (logging_sure (b + 1) false (omega (arith, low)) (λ never. absurd (let e : false ≡ true = never in cc)))
          (λ ms rest front some y found. stop_begun s.maybe s.epoch_gate (first_write ∷ (writes_more ++ (gates ++ ms))) rest y few found.epoch_gate
          (behind_writes (gates ++ ms) rest (append_assoc gates ms rest ∙ ap (λ (ns : List Note). gates ++ ns) front) ∙ are_whole) (is_of epoch (rest_of s2) y is.opens found) found.at_epoch
          (let none : length rest - length shows ≡ 0 = omega (arith, length-append ms rest, ap (length {A = Note}) front) in
          subst (λ (n : ℕ). AreRecordsLeft b n y.records) (sym none) (may_one false (b + 1) y.records refl found.records ∙ add-one b)))
          (λ t stays. conv_along p f most epoch (start epoch (suc b) t) Target (λ ms. whole ++ ms) (λ ms. first_write ∷ (writes_more ++ (gates ++ (shows ++ ms))))
          (λ ms. ap (λ (ns : List Note). first_write ∷ ns) (append_assoc (writes_more ++ gates) shows ms ∙ append_assoc writes_more gates (shows ++ ms)))
          (conv_map p f most epoch (start epoch (suc b) t) (Turns epoch (suc b) r t.maybe t.epoch_gate) (λ ms y z. Target (whole ++ ms) y z)
          (λ ms y z then. (let same : then.records ≡ r = may_one t.maybe r then.records (ap (λ (q : Rest). q.1.1.1.1) stays.1) then.may_records in
          step_turn epoch b r s.maybe s.epoch_gate epoch (suc b) r t.maybe t.epoch_gate whole ms y z then then.records then.is_open (inl same) (subst (λ (g : Gate). GateMay g then.is_open) (ap (λ (q : Rest). q.1.1.0) stays.1) then.may_gate)
          (are_whole ∙ begun_notes then.records then.is_open (omega (arith, same, few))) (next_batch then.records then.is_open)))
          (ahead epoch (suc b) r t (behind_batch s2 t r stays is.side is.opens (inr (omega (arith, few), (add-one b, refl))) is.few (λ never. absurd (let e : false ≡ true = never in cc)))))))

      -- the record's rest, behind its first cell
      conv_record : (most : ℕ) → Ahead most → Conv p f (suc most) epoch (record_next p f all t0 generation low s) (λ ms y z. Target (first_write ∷ ms) y z)
      conv_record most ahead =
          let s1 : StandingKnown = logging b false in
          let c : ℕ = b + 1 in
          let never : false ≡ true → b < p.batches = (λ e. low) in
          let small : b ≤ p.batches = omega (arith, low) in
          conv_kept p f (suc most) epoch (at p s1 c ls [] []) writes_more (Fixed Sync Keeps ∷ mid_want) (λ ms y z. Target (first_write ∷ ms) y z)
          (λ ms rest front some. stop_logging b false [] (first_write ∷ ms) (rest ++ (gates ++ shows)) small never
          (ap (λ (ns : List Note). first_write ∷ ns) (sym (append_assoc ms rest (gates ++ shows)) ∙ ap (λ (ns : List Note). ns ++ (gates ++ shows)) front ∙ sym (append_assoc writes_more gates shows)))
          (none_more (length (rest ++ (gates ++ shows)) - length shows) (omega (arith, length-append rest (gates ++ shows)))))
          (conv_note p f (suc most) epoch (at p s1 c ls [] (Fixed Sync Keeps ∷ mid_want)) (at p s1 c ls [] mid_want) Sync (λ ms y z. Target (first_write ∷ (writes_more ++ ms)) y z) (λ given k takes filled. takes)
          (stop_logging b false (Fixed Sync Keeps ∷ mid_want) (first_write ∷ (writes_more ++ [])) (gates ++ shows) small never (behind_writes [] (gates ++ shows) refl) (none_more (length (gates ++ shows) - length shows) (omega arith)))
          (conv_note p f (suc most) epoch (at p s1 c ls [] mid_want) (at p (logging b true) c ls [] last_want) gate_write (λ ms y z. Target (first_write ∷ (writes_more ++ Sync ∷ ms)) y z) (λ given k takes filled. takes)
          (stop_logging b false mid_want (first_write ∷ (writes_more ++ Sync ∷ [])) (gate_write ∷ Sync ∷ shows) small never (behind_writes (Sync ∷ []) (gate_write ∷ Sync ∷ shows) refl) (none_more (length (gate_write ∷ Sync ∷ shows) - length shows) (omega arith)))
          (conv_note p f (suc most) epoch (at p (logging b true) c ls [] last_want) (taken_up (at p (logging c false) c ls [] (places p b))) Sync (λ ms y z. Target (first_write ∷ (writes_more ++ Sync ∷ gate_write ∷ ms)) y z) (λ given k takes filled. takes)
          (stop_logging b true last_want (first_write ∷ (writes_more ++ Sync ∷ gate_write ∷ [])) (Sync ∷ shows) small (λ e. low) (behind_writes (Sync ∷ gate_write ∷ []) (Sync ∷ shows) refl)
          (λ records may. (let one : 1 ≡ length (Sync ∷ shows) - length shows = omega arith in subst (λ (n : ℕ). AreRecordsLeft b n records) one (either_record records may))))
          (conv_shows most ahead))))

      -- it may not be opens before
      conv_begun : (most : ℕ) → Ahead most → s.maybe ≡ false → Conv p f (suc most) epoch (start epoch b s) Target
      conv_begun most ahead none =
          let wants : List Want = Fixed first_write Keeps ∷ more_wants p f all t0 generation low s in
          let g : Follow = at p s (b + 1) ls [] wants in
          subst (λ (h : Follow). Conv p f (suc most) epoch h Target) (sym (loaded p f all t0 generation low s wants (record_wants_of p f all t0 generation low s false logged none)))
          (conv_note p f (suc most) epoch g (record_next p f all t0 generation low s) first_write Target
          (λ given k takes filled. (takes.0, takes.1 ∙ (λ i. taken_up (at p (record s { logged = logged i; maybe = none i }) (b + 1) ls [] (more_wants p f all t0 generation low s)))))
          (told_result p f epoch generation (rest_of s) s (b + 1) ls [] wants Target [] (is.holds, refl) (before_sure epoch b r s is)
          (λ y found. stop_begun s.maybe s.epoch_gate [] whole y few found.epoch_gate are_whole (is_of epoch (rest_of s) y is.opens found) found.at_epoch
          (none_more (length whole - length shows) (omega (arith, length-append (first_write ∷ (writes_more ++ gates)) shows, length-append writes_more gates)) y.records
          (subst₂ (λ (n : ℕ) (m : Bool). RecordsMay n m y.records) logged none found.records))))
          (conv_record most ahead))

      -- it may be
      conv_either_way : (most : ℕ) → Ahead most → s.maybe ≡ true → r ≡ b → Conv p f (suc most) epoch (start epoch b s) Target
      conv_either_way most ahead maybe same_r =
          let wants : List Want = Record b ∷ [] in
          let g : Follow = at p s (b + 1) ls [] wants in
          let n : ℕ = many p f all t0 generation low in
          let s2 : StandingKnown = logging (b + 1) false in
          let rest : Rest = rest_of s2 in
          let sure : IsSure p generation rest = logging_sure (b + 1) false (omega (arith, low)) (λ never. absurd (let e : false ≡ true = never in cc)) in
          let some : p.places ≡ suc n = all_places p f all t0 generation low in
          let leaf : ℕ = leaf_of p f all epoch generation rest sure b 0 in
          let xs : List Note = holes_at p f all epoch generation rest sure b 0 in
          let ys : List Note = flat_map (notes_at p f all epoch generation rest sure b) (range_with_len 1 n) in
          let ws : List Want = map (λ j. Place b j) (range_with_len 1 n) in
          let are : (Label leaf ∷ xs) ++ ys ≡ shows = are_notes p f all t0 generation low rest in
          let none : ls ≡ ls ++ take 0 (batch_leaves p (fills_at p f epoch) b) = begun p f all t0 generation low in
          let P : Shown p f = (λ ms y z. Target (Label leaf ∷ ms) y z) in
          let is_leaf : leaf ≡ f.leaf (suc epoch) b 0 = leaf_at p f all epoch rest b 0 (omega (arith, some)) in
          let stops : Fronts (xs ++ ys) (Told p f epoch generation rest P) =
          (λ ms left front more y found. (let one : y.records ≡ suc b = may_one false (b + 1) y.records refl found.records ∙ add-one b in
          stop_repeated s.maybe s.epoch_gate (Label leaf ∷ ms) left y (omega (arith, one)) (inr (maybe, one ∙ ap suc (sym same_r))) found.epoch_gate (ap (λ (ns : List Note). Label leaf ∷ ns) front ∙ are) (is_of epoch rest y is.opens found) found.at_epoch)) in
          let then_shows : (t : StandingKnown) → StaysAs p f epoch rest t → Conv p f most epoch (start epoch (suc b) t) (λ ms y z. Target (shows ++ ms) y z) =
          (λ t stays. conv_map p f most epoch (start epoch (suc b) t) (Turns epoch (suc b) (b + 1) t.maybe t.epoch_gate) (λ ms y z. Target (shows ++ ms) y z)
          (λ ms y z then. (let one : then.records ≡ suc b = may_one t.maybe (b + 1) then.records (ap (λ (q : Rest). q.1.1.1.1) stays.1) then.may_records ∙ add-one b in
          step_turn epoch b r s.maybe s.epoch_gate epoch (suc b) (b + 1) t.maybe t.epoch_gate shows ms y z then then.records then.is_open (inr (maybe, one ∙ ap suc (sym same_r)))
          (subst (λ (h : Gate). GateMay h then.is_open) (ap (λ (q : Rest). q.1.1.0) stays.1) then.may_gate) (repeated_notes then.records then.is_open (omega (arith, one))) (next_batch then.records then.is_open)))
          (ahead epoch (suc b) (b + 1) t (behind_batch s2 t (b + 1) stays is.side is.opens (inl (omega arith, refl)) (omega (arith, low)) (λ never. absurd (let e : false ≡ true = never in cc))))) in
          let more : Conv p f most epoch (behind_label p f all epoch generation rest sure s2 (b + 1) b 0 ls ws) P =
          conv_reads p f all epoch generation rest sure most s2 (b + 1) b 0 ls ws P (logging_holds (b + 1) false, refl) low (omega (arith, some)) none (front_left (Told p f epoch generation rest P) xs ys stops)
          (λ t stays. conv_places p f all epoch generation rest sure n most t (b + 1) b 1 (ls ++ leaf ∷ []) (λ ms y z. P (xs ++ ms) y z) stays low (omega (arith, some))
          (one_more p f all epoch rest b 0 ls (omega (arith, some)) none) (front_right (Told p f epoch generation rest P) xs ys stops)
          (λ u still. conv_along p f most epoch (taken_up (at p u (b + 1) (leaves_of_batches p f (suc epoch) (suc b)) [] [])) Target (λ ms. shows ++ ms) (λ ms. Label leaf ∷ (xs ++ (ys ++ ms)))
          (λ ms. ap (λ (ns : List Note). ns ++ ms) (sym are) ∙ append_assoc (Label leaf ∷ xs) ys ms)
          (subst (λ (c : ℕ). Conv p f most epoch (taken_up (at p u c (leaves_of_batches p f (suc epoch) (suc b)) [] [])) (λ ms y z. Target (shows ++ ms) y z)) (sym (add-one b)) (then_shows u still)))) in
          let one_of : OneOf p f epoch g (Label leaf) (behind_label p f all epoch generation rest sure s2 (b + 1) b 0 ls ws) first_write (record_next p f all t0 generation low s) = either_by leaf ws is_leaf (ap (drop 1) (are_places p f all t0 generation low)) in
          subst (λ (h : Follow). Conv p f (suc most) epoch h Target) (sym (loaded p f all t0 generation low s wants (record_wants_of p f all t0 generation low s true logged maybe)))
          (conv_either_strict p f most epoch g (behind_label p f all epoch generation rest sure s2 (b + 1) b 0 ls ws) (record_next p f all t0 generation low s) (Label leaf) first_write Target one_of stop_either more
          (conv_weak p f most epoch (record_next p f all t0 generation low s) (λ ms y z. Target (first_write ∷ ms) y z) (conv_record most ahead)))
        where
          either_by : (leaf : ℕ) (ws : List Want) → leaf ≡ f.leaf (suc epoch) b 0 → drop 1 (places p b) ≡ ws
              → OneOf p f epoch (at p s (b + 1) ls [] (Record b ∷ [])) (Label leaf) (taken_up (at p (with_label (logging (b + 1) false) b 0 leaf) (b + 1) (ls ++ leaf ∷ []) (place_holes p (counts_now p (public_known p (logging (b + 1) false) ls)) leaf) ws))
              first_write (record_next p f all t0 generation low s)
          either_by leaf ws is_leaf are given k (inl (x, takes)) filled =
              (let same : x ≡ leaf = filled x takes.is ∙ sym is_leaf in
              inl (takes.is ∙ ap (λ (n : ℕ). Label n) same, takes.then ∙ (λ i. taken_up (at p (with_label (logging (b + 1) false) b 0 (same i)) (b + 1) (ls ++ same i ∷ []) (place_holes p (counts_now p (public_known p (logging (b + 1) false) ls)) (same i)) (are i)))))
          either_by leaf ws is_leaf are given k (inr takes) filled =
              inr (takes.is, takes.then ∙ (λ i. taken_up (at p (record s { logged = logged i; maybe = false }) (b + 1) ls [] (drop 1 (split_wants p f all t0 generation low s i)))))

          stop_either : Result p f epoch (at p s (b + 1) ls [] (Record b ∷ [])) Target []
          stop_either = told_result p f epoch generation (rest_of s) s (b + 1) ls [] (Record b ∷ []) Target [] (is.holds, refl) (before_sure epoch b r s is) (λ y found. by y found found.records)
            where
              by : (y : RunFound) → Exactly epoch generation (rest_of s) y → RecordsMay s.logged s.maybe y.records → Target [] y y
              by y found (inl same) = stop_begun s.maybe s.epoch_gate [] whole y few found.epoch_gate are_whole (is_of epoch (rest_of s) y is.opens found) found.at_epoch
                  (none_more (length whole - length shows) (omega (arith, length-append (first_write ∷ (writes_more ++ gates)) shows, length-append writes_more gates)) y.records (inl (same ∙ logged)))
              by y found (inr one) =
                  (let more : y.records ≡ suc b = one.1 ∙ ap suc logged in
                  stop_repeated s.maybe s.epoch_gate [] shows y (omega (arith, more)) (inr (maybe, more ∙ ap suc (sym same_r))) found.epoch_gate refl (is_of epoch (rest_of s) y is.opens found) found.at_epoch)

    -- ---- any batch

    pub conv_batch : (most : ℕ) (s : StandingKnown) → Ahead most → Before epoch b r s → Conv p f (suc most) epoch (start epoch b s) (Turns epoch b r s.maybe s.epoch_gate)
    conv_batch most s ahead is = go is.at_records
      where
        new : s.logged ≡ b → r ≤ b → (s.maybe ≡ true → r ≡ b) → (m : Bool) → s.maybe ≡ m → Conv p f (suc most) epoch (start epoch b s) (Turns epoch b r s.maybe s.epoch_gate)
        new logged few same false none = conv_begun s is logged few most ahead none
        new logged few same true maybe = conv_either_way s is logged few most ahead maybe (same maybe)

        old : (b ≤ r) × (s.logged ≡ r) → (b < r) ⊎ (r ≤ b) → Conv p f (suc most) epoch (start epoch b s) (Turns epoch b r s.maybe s.epoch_gate)
        old at_record (inl sure) = conv_repeated most s ahead is sure at_record.1
        old at_record (inr few) = (let same : r ≡ b = omega (arith, few, at_record.0) in new (at_record.1 ∙ same) few (λ e. same) s.maybe refl)

        go : ((b ≤ r) × (s.logged ≡ r)) ⊎ ((r ≤ b) × ((s.logged ≡ b) × (s.maybe ≡ false))) → Conv p f (suc most) epoch (start epoch b s) (Turns epoch b r s.maybe s.epoch_gate)
        go (inl at_record) = old at_record (cases_lt b r)
        go (inr at_record) = new at_record.1.0 at_record.0 (λ e. absurd (let never : true ≡ false = sym e ∙ at_record.1.1 in cc)) s.maybe refl
