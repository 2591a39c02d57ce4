-- A worked list of events over a small ring store: a format, an opening, a batch, a crash inside the next one, and an opening that shows both again.
use Rattle.std.specs.Prelude.{Bool, true, drop, take}
use Rattle.std.proofs.Common.{inl, ◌≡◌, inr, ℕ, ◌+◌, ◌-◌, ◌*◌, ◌%◌, List, [], ◌∷◌, ◌++◌, length, map, Some, None, refl, sym, subst, arith}
use Rattle.std.proofs.lemmas.List.{take-append-drop}
use Rattle.ob_base.specs.Repeats.{Has}
use Rattle.ob_cells.specs.Lanes.{ReadByLanes, reads_of_lanes}
use Rattle.ob_desk.specs.Desk.{Setup, DeskState, Batch, Deliver, Done, TakeBatch, new_desk, with_order, setup_of}
use Rattle.ob_order.specs.Order.{after_deliver, after_take}
use Rattle.ob_opening.specs.OpeningActs.{IsLeftAt}
use Rattle.ob_pads.specs.Seals.{pads_between}
use Rattle.ob_recover.proofs.Dealing.{one_lane_in_order}
use Rattle.ob_recover.specs.Life.{Append, HolesAreFresh, LifeAct, Open as OpenAct, ShowBatch, SlotFill, formatted_life, life_labels, life_slots}
use Rattle.ob_recover.specs.Telling.{AreDealt}
use Rattle.ob_schedule.specs.Holes.{Hole}
use Rattle.ob_schedule.specs.Phases.{Phase, Reads, Writes, Syncs, events_of_phases, phase_events, phases_of, shared}
use Rattle.ob_schedule.specs.Schedule.{Fills, batch_leaves, phase_notes, public_formatted, record_notes}
use Rattle.ob_seal.specs.declared.keys.Keys.{Keys}
use Rattle.ob_serial.specs.Vaults.{Fetch, Values, VaultState}
use Rattle.ob_stand.specs.Stands.{StandsRing}
use Rattle.ob_store.specs.Disk.{Image}
use Rattle.ob_store.specs.Told.{events_of}
use Rattle.ob_store.specs.declared.event.Event.{Event}
use Rattle.ob_store.specs.declared.event.Event.TheVariants.{Read}
use Rattle.ob_vault.specs.Seen.{RingPublic}
use Rattle.ob_vault.specs.Shapes.{Fetches}
use Rattle.ob_world.proofs.Holding.{headline}
use Rattle.ob_world.proofs.Rows.{asked, at_zero, empty, pads, values}
use Rattle.ob_world.specs.Courses.{Course}
use Rattle.ob_world.specs.Drivers.{AtRest, HasFetched, HasTaken, IsDown}
use Rattle.ob_world.specs.Headlines.{Headline}
use Rattle.ob_world.specs.Worlds.{WorldEvent, Desk, Vault, Crash, Open, World, IsWorld, cut_vault, first_world, opened_vault}
use Rattle.ob_ring_world.proofs.RingRows.{again, asks, both_again, cut_in_flight, first_batch, found, label, labels_again, record_is_found, row_is_life, second_batch, shown, slots, slots_ranked, two_batches, words}
use Rattle.ob_ring_world.proofs.Sounding.{begins_sound, dealt_one_by_one, promises}
use Rattle.ob_ring_world.specs.Pasts.{IsFrontRow, OfCall, OfOpening, RingPast, RowKind, ShownRow, formatted_past, row_next, row_phases, state_behind}
use Rattle.ob_ring_world.specs.RingCourses.{RingPromises, ring_course}
use Rattle.ob_ring_world.specs.Steps.{IsAnsweredBy, IsCutCall, IsOpenedBy}

-- ---- rows that one lane made as planned

by_one_lane : (cells : List ℕ) → ReadByLanes 1 cells (Some []) (Some (map (λ cell. Read cell) cells))
by_one_lane cells =
    let made : ReadByLanes 1 cells (Some []) (Some (reads_of_lanes 1 (λ i. 0) cells)) = record { lanes = 1; few = omega arith; lane_of = λ i. 0; within = λ i lt. omega arith; seen = refl } in
    record { lanes = 1; few = omega arith; lane_of = λ i. 0; within = λ i lt. omega arith; seen = sym (one_lane_in_order 1 cells (Some []) (Some (reads_of_lanes 1 (λ i. 0) cells)) (omega arith) made) }

as_planned : (phases : List Phase) → AreDealt 1 phases (events_of_phases phases)
as_planned [] = refl
as_planned (Reads cells ∷ phases) = (phase_events (Reads cells), events_of_phases phases, refl, by_one_lane cells, as_planned phases)
as_planned (Writes cells ∷ phases) = (events_of_phases phases, refl, as_planned phases)
as_planned (Syncs ∷ phases) = (events_of_phases phases, refl, as_planned phases)

-- ---- what fills the holes: the words in turn, and each bucket's dummies before its other slots

abbrev filled : Fills
filled = record { label = λ batch place. 2 * batch + place; slot = λ (hole : Hole). (hole.number + 2) % 5 }

abbrev AllFill : List SlotFill → Type 0
AllFill [] = Unit {0}
AllFill (x ∷ xs) = (x.slot ≡ filled.slot (record { bucket = x.bucket; number = x.number })) × AllFill xs

each_fills : (xs : List SlotFill) → AllFill xs → (x : SlotFill) → Has xs x → x.slot ≡ filled.slot (record { bucket = x.bucket; number = x.number })
each_fills [] all x has = absurd has
each_fills (y ∷ xs) all x (inl is) = subst (λ (z : SlotFill). z.slot ≡ filled.slot (record { bucket = z.bucket; number = z.number })) is all.0
each_fills (y ∷ xs) all x (inr has) = each_fills xs all.1 x has

abbrev whole_row : RowKind → RingPublic → (before acts : List LifeAct) → ShownRow
whole_row kind q before acts = record { kind = kind; public = q; fills = filled; lanes = 1; events = events_of_phases (row_phases two_batches kind q filled); before = before; acts = acts }

abbrev open_gates : ℕ → Bool
open_gates cell = true

abbrev setup : Setup
setup = setup_of two_batches

abbrev clients : List ℕ
clients = 1 ∷ []

module _ (keys : Keys) (calls : ℕ) where
  abbrev p0 : RingPast
  p0 = formatted_past two_batches calls

  -- ---- the first opening

  abbrev q0 : RingPublic
  q0 = record { known = public_formatted two_batches; shown = 0 }

  abbrev opening : ShownRow
  opening = whole_row (OfOpening open_gates 2 0) q0 [] (OpenAct 2 ∷ [])

  abbrev p1 : RingPast
  p1 = record { acts = OpenAct 2 ∷ []; in_flight = None; rows = opening ∷ p0.rows; pads = []; sealer = Some (record { keys = keys; generation = 2; next = 0 }) }

  opens : IsOpenedBy two_batches words slots p0 at_zero p1
  opens = record {
    found = [];
    finds = inl refl;
    epoch = refl;
    row = opening;
    gates = open_gates;
    kind = refl;
    before = refl;
    acts = refl;
    whole = as_planned (row_phases two_batches (OfOpening open_gates 2 0) q0 filled);
    filled = record { gates = q0.known.gates; known = refl; shown = refl; is_life = (omega arith, tt); labels = refl; slots = λ x has. absurd has };
    sealing = record { keys = keys; generation = 2; next = 0 };
    generation = refl;
    none_sealed = refl;
    state = refl;
  }

  -- ---- a batch

  abbrev q1 : RingPublic
  q1 = row_next two_batches (OfOpening open_gates 2 0) q0 filled

  abbrev batch : ShownRow
  batch = whole_row (OfCall Fetches) q1 (OpenAct 2 ∷ []) (Append first_batch ∷ ShowBatch ∷ [])

  abbrev p2 : RingPast
  p2 = record { acts = shown; in_flight = None; rows = batch ∷ opening ∷ p0.rows; pads = pads_between (Some (record { keys = keys; generation = 2; next = 0 })) (record { keys = keys; generation = 2; next = 9 }); sealer = Some (record { keys = keys; generation = 2; next = 9 }) }

  fetches : IsAnsweredBy two_batches words slots p1 (Fetch asks) p2
  fetches = record {
    row = batch;
    kind = refl;
    before = refl;
    acts = (first_batch, refl, refl);
    whole = as_planned (row_phases two_batches (OfCall Fetches) q1 filled);
    filled = record {
      gates = q1.known.gates;
      known = refl;
      shown = refl;
      is_life = (omega arith, ((omega arith, refl, omega arith), (omega arith, tt)));
      labels = refl;
      slots = each_fills (life_slots two_batches words (state_behind two_batches words slots (OpenAct 2 ∷ [])) (Append first_batch ∷ ShowBatch ∷ [])) (refl, (refl, (refl, (refl, (refl, (refl, tt))))));
    };
    behind = (as_planned (row_phases two_batches (OfOpening open_gates 2 0) q0 filled), refl);
    seals = record { was = record { keys = keys; generation = 2; next = 0 }; now = record { keys = keys; generation = 2; next = 9 }; sealed = refl; further = record { keys = refl; generation = refl; on = omega arith } };
    state = refl;
  }

  -- ---- the next one, cut off behind its record's gate

  abbrev q2 : RingPublic
  q2 = row_next two_batches (OfCall Fetches) q1 filled

  -- what its record is written by: all of it but the last sync was done
  abbrev logged : List Event
  logged = events_of (record_notes two_batches 1 1)

  abbrev cut_row : ShownRow
  cut_row = record { kind = OfCall Fetches; public = q2; fills = filled; lanes = 1; events = take (length logged - 1) logged; before = shown; acts = Append second_batch ∷ ShowBatch ∷ [] }

  is_front : IsFrontRow two_batches cut_row
  is_front = (
    drop (length logged - 1) logged,
    (
      phases_of (record_notes two_batches 1 1),
      shared (phase_notes two_batches q2.known filled (batch_leaves two_batches filled 1)) ∷ [],
      refl,
      subst (λ (l : List Event). AreDealt 1 (phases_of (record_notes two_batches 1 1)) l) (sym (take-append-drop (length logged - 1) logged)) (dealt_one_by_one 1 (omega arith) (record_notes two_batches 1 1)),
    ),
  )

  abbrev p3 : RingPast
  p3 = record {
    acts = shown;
    in_flight = Some (Append second_batch);
    rows = cut_row ∷ p2.rows;
    pads = p2.pads ++ pads_between (Some (record { keys = keys; generation = 2; next = 9 })) (record { keys = keys; generation = 2; next = 18 });
    sealer = None;
  }

  module _ (image : Image) (left : IsLeftAt keys two_batches words (state_behind two_batches words slots shown) (Some (Append second_batch)) image) (stands : (g : ℕ) × StandsRing keys two_batches g image at_zero) where
    cuts : IsCutCall two_batches words slots keys p2 (Fetch asks) image p3
    cuts = record {
      part = record {
        made = [];
        in_flight = Some (Append second_batch);
        first = cut_in_flight;
        is_life = (omega arith, ((omega arith, refl, omega arith), (omega arith, tt)));
        shown = Some cut_row;
        fronts = (
          refl,
          refl,
          (second_batch, refl, refl),
          is_front,
          record {
            gates = q2.known.gates;
            known = refl;
            shown = refl;
            is_life = (omega arith, ((omega arith, refl, omega arith), (omega arith, ((omega arith, refl, omega arith), (omega arith, tt)))));
            labels = refl;
            slots = each_fills (life_slots two_batches words (state_behind two_batches words slots shown) (Append second_batch ∷ ShowBatch ∷ [])) (refl, (refl, (refl, (refl, (refl, (refl, (refl, tt)))))));
          },
          (as_planned (row_phases two_batches (OfCall Fetches) q1 filled), refl),
        );
        seals = record { was = record { keys = keys; generation = 2; next = 9 }; now = record { keys = keys; generation = 2; next = 18 }; sealed = refl; further = record { keys = refl; generation = refl; on = omega arith } };
      };
      left = left;
      state = refl;
    }

    -- ---- the second opening, which finds the record and shows both batches

    abbrev second : ShownRow
    second = whole_row (OfOpening open_gates 3 2) q0 (shown ++ found) again

    abbrev p4 : RingPast
    p4 = record { acts = (shown ++ found) ++ again; in_flight = None; rows = second ∷ p3.rows; pads = p3.pads; sealer = Some (record { keys = keys; generation = 3; next = 0 }) }

    opens_again : IsOpenedBy two_batches words slots p3 at_zero p4
    opens_again = record {
      found = found;
      finds = record_is_found;
      epoch = refl;
      row = second;
      gates = open_gates;
      kind = refl;
      before = refl;
      acts = both_again;
      whole = as_planned (row_phases two_batches (OfOpening open_gates 3 2) q0 filled);
      filled = record {
        gates = q0.known.gates;
        known = refl;
        shown = refl;
        is_life = row_is_life;
        labels = refl;
        slots = each_fills (life_slots two_batches words (state_behind two_batches words slots (shown ++ found)) again)
            (refl, (refl, (refl, (refl, (refl, (refl, (refl, (refl, (refl, (refl, (refl, (refl, (refl, tt)))))))))))));
      };
      sealing = record { keys = keys; generation = 3; next = 0 };
      generation = refl;
      none_sealed = refl;
      state = refl;
    }

    -- ---- as events

    abbrev kept : RingPromises keys two_batches words slots
    kept = promises keys two_batches words slots slots_ranked

    abbrev course : Course
    course = ring_course keys two_batches words slots kept

    abbrev events : List WorldEvent
    events =
        Open clients ∷ Desk 0 TakeBatch (Batch asks) ∷ Vault (Fetch asks) (Values values) ∷ Desk 0 (Deliver asks values) Done
        ∷ Desk 0 TakeBatch (Batch asks) ∷ Crash (Some (Fetch asks)) image ∷ Open clients ∷ []

    abbrev made : World RingPast
    made = first_world setup [] at_zero 0 p0

    abbrev d1 : DeskState
    d1 = new_desk setup 1 2 clients

    abbrev d2 : DeskState
    d2 = record d1 { running = with_order d1.running (after_take two_batches d1.running.order) }

    abbrev d3 : DeskState
    d3 = record d2 { running = with_order d2.running (after_deliver d2.running.order asks values) }

    abbrev d4 : DeskState
    d4 = record d3 { running = with_order d3.running (after_take two_batches d3.running.order) }

    abbrev v1 : VaultState
    v1 = opened_vault 2 at_zero 1

    abbrev w1 : World RingPast
    w1 = record { desk = d1; vault = opened_vault 2 at_zero 2; past = p1; driver = AtRest; found = empty; ended = [] }

    abbrev w2 : World RingPast
    w2 = record w1 { desk = d2; driver = HasTaken asks }

    abbrev w3 : World RingPast
    w3 = record w2 { vault = v1; past = p2; driver = HasFetched asks values }

    abbrev w4 : World RingPast
    w4 = record w3 { desk = d3; driver = AtRest }

    abbrev w5 : World RingPast
    w5 = record w4 { desk = d4; driver = HasTaken asks }

    abbrev w6 : World RingPast
    w6 = record w5 { vault = cut_vault v1 at_zero; past = p3; driver = IsDown }

    abbrev w7 : World RingPast
    w7 = record { desk = new_desk setup 1 0 clients; vault = opened_vault 2 at_zero 0; past = p4; driver = AtRest; found = empty; ended = [] }

    pub events_are_world : IsWorld course made events w7
    events_are_world = (
      w1,
      record { found = at_zero; left = 2; may = inl refl; past = p1; opened = opens; few = omega arith; state = refl },
      (
        w2,
        record { up = tt; own = inl (refl, tt); desk = d2; driver = HasTaken asks; may = (refl, omega arith, refl); step = record { taken = refl; state = refl }; moves = record { keys = asks; was = refl; told = refl; now = refl }; state = refl },
        (
          w3,
          record { vault = v1; past = p2; law = record { serves = refl; answered = record { whole = refl; asked = asked; pads = pads }; state = refl }; called = fetches; was = refl; state = refl },
          (
            w4,
            record { up = tt; own = inl (refl, tt); desk = d3; driver = AtRest; may = (refl, refl, refl); step = record { state = refl }; moves = record { was = refl; now = refl }; state = refl },
            (
              w5,
              record { up = tt; own = inl (refl, tt); desk = d4; driver = HasTaken asks; may = (refl, omega arith, refl); step = record { taken = refl; state = refl }; moves = record { keys = asks; was = refl; told = refl; now = refl }; state = refl },
              (
                w6,
                record { was = refl; left = at_zero; may = inl refl; stands = stands; past = p3; cut = cuts; state = refl },
                (w7, record { found = at_zero; left = 0; may = inl refl; past = p4; opened = opens_again; few = omega arith; state = refl }, refl),
              ),
            ),
          ),
        ),
      ),
    )

    -- the labels of the first batch are shown twice the same, and all that was shown is fresh
    abbrev AreTwiceTheSame : Type 0
    AreTwiceTheSame = (life_labels two_batches words (formatted_life slots) shown ≡ label 0 0 0 ∷ label 0 1 1 ∷ [])
        × (life_labels two_batches words (state_behind two_batches words slots second.before) second.acts ≡ (label 0 0 0 ∷ label 0 1 1 ∷ []) ++ (label 1 0 2 ∷ label 1 1 3 ∷ []))

    pub events_are_fresh : AreTwiceTheSame × HolesAreFresh (life_labels two_batches words (formatted_life slots) w7.past.acts) (life_slots two_batches words (formatted_life slots) w7.past.acts)
    events_are_fresh =
        let h : Headline course made events w7 = headline course setup [] at_zero 0 p0 events w7 (begins_sound keys two_batches words slots slots_ranked calls) events_are_world in
        ((refl, labels_again), h.fills.made)
