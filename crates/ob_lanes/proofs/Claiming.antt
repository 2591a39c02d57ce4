-- A hand that claims places one by one, and reads the job at each.
use Rattle.std.proofs.Common.{◌≡◌, ◌<◌, ◌≤◌, ◌+◌, ℕ, List, [], ◌∷◌, ◌++◌, length, get_or, refl, sym, ap, subst, ◌∙◌, arith, ⊎_elim, vec_capacity, Option}
use Rattle.std.specs.List.{All}
use Rattle.std.specs.Global.{Vec}
use Rattle.std.proofs.lemmas.List.{map-append, append-nil}
use Rattle.std.proofs.lemmas.List.Elements.{All-nil, All-cons, All-push, All-weaker, All-head, All-tail}
use Rattle.ob_base.specs.Planned.{job_at}
use Rattle.ob_store.specs.declared.event.Event.{Event}
use Rattle.ob_store.specs.declared.event.Event.TheVariants.{Read}
use Rattle.ob_store.specs.Disk.{Disk}
use Rattle.ob_store.specs.Calls.{Notes}
use Rattle.ob_store.proofs.Events.{joined, none_noted}
use Rattle.ob_claims.specs.declared.claims.Claims.{Claims}
use Rattle.ob_claims.specs.declared.claims.Round.{Round}
use Rattle.ob_claims.specs.ClaimCalls.{ClaimSeat, IsClaimSeat, HasCome, ClaimsNumber, FindsNone}
use Rattle.ob_lanes.specs.declared.hand.SealedJobs.{SealedJobs}
use Rattle.ob_lanes.specs.declared.hand.Slot.{Slot}
use Rattle.ob_lanes.specs.declared.hand.Hand.{Hand}
use Rattle.ob_lanes.specs.Hands.{IsHandRead, IsHandReady, IsReadAt, slot_places, reads_of}
use Rattle.ob_lanes.specs.JobReads.{IsSlotRead, cells_of}
use Rattle.ob_lanes.specs.Shares.{RiseFrom}
use Rattle.ob_lanes.proofs.SlotReads.{cell_at, read_next, read_on}

-- a place above all others may stand behind them
pub rises_on : (least place : ℕ) (places : List ℕ) → RiseFrom least places → All (λ x. x < place) places → least ≤ place → RiseFrom least (places ++ place ∷ [])
rises_on least place [] rise below le = (le, tt)
rises_on least place (x ∷ xs) rise below le =
    let head : x < place = All-head (λ y. y < place) x xs below in
    (rise.0, rises_on (x + 1) place xs rise.1 (All-tail (λ y. y < place) x xs below) (omega (arith, head)))

-- the reads of places and of one more
pub reads_more : (asked : SealedJobs) (places : List ℕ) (place : ℕ) → reads_of asked (places ++ place ∷ []) ≡ reads_of asked places ++ Read (job_at asked.jobs.now place).cell ∷ []
reads_more asked places place = map-append (λ p. Read (get_or (cells_of asked.jobs.now) p 0)) places (place ∷ []) ∙ ap (λ (c : ℕ). reads_of asked places ++ Read c ∷ []) (cell_at asked.jobs.now place)

module _ {L : Type 0} (disk : Disk) (lane_seen : L → Option (List Event)) (lane_faults : L → ℕ) (claims : Claims) (round : Round) (asked : SealedJobs) where
  -- the hand has read what it has claimed so far
  pub record IsReading (first now : Hand L) : Type 0 where
    pub own : IsClaimSeat claims now.seat
    pub come : HasCome now.seat round
    pub claimed : now.seat.me.0.claimed ≡ slot_places now.part.items
    pub rising : RiseFrom 0 (slot_places now.part.items)
    pub reached : All (λ x. x < now.seat.me.0.reached) (slot_places now.part.items)
    pub parts : now.seat.me.0.parts ≡ first.seat.me.0.parts
    pub read : All (IsReadAt asked disk (lane_faults first.lane) (lane_faults now.lane)) now.part.items
    pub seen : Notes (reads_of asked (slot_places now.part.items)) (lane_seen first.lane) (lane_seen now.lane)
    pub later : lane_faults first.lane ≤ lane_faults now.lane
    pub room : vec_capacity now.part ≡ vec_capacity first.part

  pub begins : (hand : Hand L) → IsHandReady claims round hand → IsReading hand hand
  begins hand ready =
      let none : slot_places hand.part.items ≡ [] = ap slot_places ready.empty in record {
        own = ready.own;
        come = ready.come;
        claimed = ready.unclaimed ∙ sym none;
        rising = subst (RiseFrom 0) (sym none) tt;
        reached = subst (All (λ x. x < hand.seat.me.0.reached)) (sym none) (All-nil (λ x. x < hand.seat.me.0.reached));
        parts = refl;
        read = subst (All (IsReadAt asked disk (lane_faults hand.lane) (lane_faults hand.lane))) (sym ready.empty) (All-nil (IsReadAt asked disk (lane_faults hand.lane) (lane_faults hand.lane)));
        seen = subst (λ (places : List ℕ). Notes (reads_of asked places) (lane_seen hand.lane) (lane_seen hand.lane)) (sym none) (none_noted (lane_seen hand.lane));
        later = omega arith;
        room = refl;
      }

  pub goes_on : (first now : Hand L) (seat : ClaimSeat) (lane : L) (part : Vec Slot) (slot : Slot) (place : ℕ) → IsReading first now → round.start ≡ 0 → round.count ≡ length asked.jobs.now
      → IsClaimSeat claims seat → seat.me.0.parts ≡ now.seat.me.0.parts → ClaimsNumber now.seat seat round place
      → slot.place ≡ place → IsSlotRead asked.sealer.now.keys disk (lane_faults now.lane) (lane_faults lane) (job_at asked.jobs.now place) slot → Notes (Read (job_at asked.jobs.now place).cell ∷ []) (lane_seen now.lane) (lane_seen lane) → lane_faults now.lane ≤ lane_faults lane
      → part.items ≡ now.part.items ++ slot ∷ [] → vec_capacity part ≡ vec_capacity now.part
      → IsReading first (record { lane = lane; seat = seat; part = part })
  goes_on first now seat lane part slot place was start long own parts drawn is read seen later items room =
      let places : slot_places part.items ≡ slot_places now.part.items ++ place ∷ [] = ap slot_places items ∙ map-append (λ s. s.place) now.part.items (slot ∷ []) ∙ ap (λ (p : ℕ). slot_places now.part.items ++ p ∷ []) is in
      let number : round.start + place ≡ place = omega (arith, start) in
      let rises = drawn.rises in
      let reached = drawn.reached in
      let within = drawn.within in
      let below : All (λ x. x < place) (slot_places now.part.items) = All-weaker (λ x. x < now.seat.me.0.reached) (λ x. x < place) (λ x lt. omega (arith, lt, rises, number)) (slot_places now.part.items) was.reached in
      let on : All (λ x. x < seat.me.0.reached) (slot_places now.part.items ++ place ∷ []) = All-push (λ x. x < seat.me.0.reached) (slot_places now.part.items) place
      (All-weaker (λ x. x < place) (λ x. x < seat.me.0.reached) (λ x lt. omega (arith, lt, reached, number)) (slot_places now.part.items) below) (omega (arith, reached, number)) in
      let before = was.later in record {
        own = own;
        come = (let come = was.come in omega (arith, come, rises, reached));
        claimed = drawn.claimed ∙ (λ i. was.claimed i ++ number i ∷ []) ∙ sym places;
        rising = subst (RiseFrom 0) (sym places) (rises_on 0 place (slot_places now.part.items) was.rising below (omega arith));
        reached = subst (All (λ x. x < seat.me.0.reached)) (sym places) on;
        parts = parts ∙ was.parts;
        read = subst (All (IsReadAt asked disk (lane_faults first.lane) (lane_faults lane))) (sym items)
            (All-push (IsReadAt asked disk (lane_faults first.lane) (lane_faults lane)) now.part.items slot
            (All-weaker (IsReadAt asked disk (lane_faults first.lane) (lane_faults now.lane)) (IsReadAt asked disk (lane_faults first.lane) (lane_faults lane)) (λ s r. read_on asked disk _ _ _ s later r) now.part.items was.read)
            (read_next asked disk _ (lane_faults now.lane) _ place slot (omega (arith, within, long)) is read before));
        seen = subst (λ (es : List Event). Notes es (lane_seen first.lane) (lane_seen lane)) (sym (ap (reads_of asked) places ∙ reads_more asked (slot_places now.part.items) place))
            (joined (reads_of asked (slot_places now.part.items)) (Read (job_at asked.jobs.now place).cell ∷ []) (lane_seen first.lane) (lane_seen now.lane) (lane_seen lane) was.seen seen);
        later = omega (arith, before, later);
        room = room ∙ was.room;
      }

  read_with : (first now : Hand L) (seat : ClaimSeat) (beyond : List ℕ) → IsReading first now → IsClaimSeat claims seat → seat.me.0.parts ≡ now.seat.me.0.parts → now.seat.me.0.reached ≤ seat.me.0.reached
      → All (λ x. round.count ≤ x) beyond → seat.me.0.claimed ≡ now.seat.me.0.claimed ++ beyond → IsHandRead disk lane_seen lane_faults claims round asked first (record now { seat = seat })
  read_with first now seat beyond was own parts rises behind claimed = record {
    seat = record {
      own = own;
      come = (let come = was.come in omega (arith, come, rises));
      beyond = beyond;
      behind = behind;
      claimed = claimed ∙ ap (λ (xs : List ℕ). xs ++ beyond) was.claimed;
      rising = was.rising;
      reached = All-weaker (λ x. x < now.seat.me.0.reached) (λ x. x < seat.me.0.reached) (λ x lt. omega (arith, lt, rises)) (slot_places now.part.items) was.reached;
    };
    parts = parts ∙ was.parts;
    read = was.read;
    seen = was.seen;
    later = was.later;
    room = was.room;
  }

  -- its part is full, or it has not begun
  pub ends_full : (first now : Hand L) → IsReading first now → IsHandRead disk lane_seen lane_faults claims round asked first now
  ends_full first now was = read_with first now now.seat [] was was.own refl (omega arith) (All-nil (λ x. round.count ≤ x)) (sym (append-nil now.seat.me.0.claimed))

  -- no place is left
  pub ends_none : (first now : Hand L) (seat : ClaimSeat) → IsReading first now → round.start ≡ 0 → IsClaimSeat claims seat → seat.me.0.parts ≡ now.seat.me.0.parts → now.seat.me.0.reached ≤ seat.me.0.reached
      → FindsNone now.seat seat round → IsHandRead disk lane_seen lane_faults claims round asked first (record now { seat = seat })
  ends_none first now seat was start own parts rises none = ⊎_elim
      (λ same. read_with first now seat [] was own parts rises (All-nil (λ x. round.count ≤ x)) (same ∙ sym (append-nil now.seat.me.0.claimed)))
      (λ more. read_with first now seat (more.0 ∷ []) was own parts rises (All-cons (λ x. round.count ≤ x) more.0 [] (let past = more.1 in omega (arith, past, start)) (All-nil (λ x. round.count ≤ x))) more.2)
      none.claimed
