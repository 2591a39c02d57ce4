-- What no lane has claimed, read one by one into its places.
use Rattle.std.proofs.Common.{◌≡◌, ◌≢◌, ◌<◌, ◌≤◌, ◌+◌, ℕ, List, [], ◌∷◌, ◌++◌, length, set, refl, sym, ap, subst, ◌∙◌, arith, ⊎_elim, append_assoc, length-set, get_or-set_same, get_or-set_other, Option}
use Rattle.std.specs.List.{All}
use Rattle.std.specs.Global.{Vec}
use Rattle.std.proofs.lemmas.List.{append-nil}
use Rattle.std.proofs.lemmas.List.Elements.{All-nil, All-cons, All-push, All-weaker}
use mathlib.Core.Logic.{dite}
use native.Mathlib.Decide.{ℕ_discrete}
use Rattle.ob_base.specs.Planned.{job_at}
use Rattle.ob_store.specs.declared.event.Event.{Event}
use Rattle.ob_store.specs.declared.event.Event.TheVariants.{Read}
use Rattle.ob_store.specs.Disk.{Disk}
use Rattle.ob_store.specs.Calls.{Notes}
use Rattle.ob_store.proofs.Events.{joined, none_noted}
use Rattle.ob_claims.specs.declared.claims.Round.{Round}
use Rattle.ob_claims.specs.ClaimCalls.{ClaimSeat, IsClaimSeat, HasCome, ClaimsNumber, FindsNone}
use Rattle.ob_claims.specs.ClaimRule.{times}
use Rattle.ob_claims.proofs.Counts.{times_append}
use Rattle.ob_lanes.specs.declared.hand.SealedJobs.{SealedJobs}
use Rattle.ob_lanes.specs.declared.hand.Slot.{Slot}
use Rattle.ob_lanes.specs.declared.readers.Readers.{Readers}
use Rattle.ob_lanes.specs.Hands.{IsReadAt, reads_of, slot_at}
use Rattle.ob_lanes.specs.JobReads.{IsSlotRead}
use Rattle.ob_lanes.specs.Placing.{AreLeftRead}
use Rattle.ob_lanes.specs.Shares.{RiseFrom}
use Rattle.ob_lanes.proofs.Claiming.{reads_more, rises_on}
use Rattle.ob_lanes.proofs.Places.{blank}
use Rattle.ob_lanes.proofs.Sharing.{hit, hit_no, hit_yes, times_cons}
use Rattle.ob_lanes.proofs.SlotReads.{read_next, read_on}

module _ {L : Type 0} (disk : Disk) (lane_seen : L → Option (List Event)) (lane_faults : L → ℕ) (round : Round) (asked : SealedJobs) where
  pub record IsReadingLeft (lane_first lane : L) (first now : Readers L) : Type 0 where
    pub own : IsClaimSeat now.claims now.seat
    pub come : HasCome now.seat round
    pub parts : now.seat.me.0.parts ≡ first.seat.me.0.parts
    pub left : List ℕ
    pub claimed : now.seat.me.0.claimed ≡ first.seat.me.0.claimed ++ left
    pub rising : RiseFrom first.seat.me.0.reached left
    pub reached : All (λ x. x < now.seat.me.0.reached) left
    pub least : first.seat.me.0.reached ≤ now.seat.me.0.reached
    pub within : All (λ p. p < length asked.jobs.now) left
    pub seen : Notes (reads_of asked left) (lane_seen lane_first) (lane_seen lane)
    pub later : lane_faults lane_first ≤ lane_faults lane
    pub long : length now.slots.items ≡ length first.slots.items
    pub read : (p : ℕ) → 0 < times p left → IsReadAt asked disk (lane_faults lane_first) (lane_faults lane) (slot_at now.slots.items p) × ((slot_at now.slots.items p).place ≡ p)
    pub others : (p : ℕ) → times p left ≡ 0 → slot_at now.slots.items p ≡ slot_at first.slots.items p
    pub rest : now ≡ record first { seat = now.seat; slots = now.slots }

  pub left_begins : (lane : L) (first : Readers L) → IsClaimSeat first.claims first.seat → HasCome first.seat round → IsReadingLeft lane lane first first
  left_begins lane first own come = record {
    own = own;
    come = come;
    parts = refl;
    left = [];
    claimed = sym (append-nil first.seat.me.0.claimed);
    rising = tt;
    reached = All-nil (λ x. x < first.seat.me.0.reached);
    least = omega arith;
    within = All-nil (λ p. p < length asked.jobs.now);
    seen = none_noted (lane_seen lane);
    later = omega arith;
    long = refl;
    read = λ p some. absurd (omega (arith, some));
    others = λ p none. refl;
    rest = refl;
  }

  pub left_goes_on : (lane_first lane next : L) (first now : Readers L) (seat : ClaimSeat) (slots : Vec Slot) (slot : Slot) (place : ℕ) → IsReadingLeft lane_first lane first now → round.start ≡ 0 → round.count ≡ length asked.jobs.now → length asked.jobs.now ≤ length first.slots.items
      → IsClaimSeat now.claims seat → seat.me.0.parts ≡ now.seat.me.0.parts → ClaimsNumber now.seat seat round place
      → slot.place ≡ place → IsSlotRead asked.sealer.now.keys disk (lane_faults lane) (lane_faults next) (job_at asked.jobs.now place) slot → Notes (Read (job_at asked.jobs.now place).cell ∷ []) (lane_seen lane) (lane_seen next) → lane_faults lane ≤ lane_faults next
      → slots.items ≡ set now.slots.items place slot
      → IsReadingLeft lane_first next first (record now { seat = seat; slots = slots })
  left_goes_on lane_first lane next first now seat slots slot place was start count room own parts drawn is read seen on items =
      let number : round.start + place ≡ place = omega (arith, start) in
      let rises = drawn.rises in
      let reached = drawn.reached in
      let inside = drawn.within in
      let least = was.least in
      let long = was.long in
      let within : place < length asked.jobs.now = omega (arith, inside, count) in
      let fits : place < length now.slots.items = omega (arith, within, room, long) in
      let here : slot_at slots.items place ≡ slot = ap (λ (ss : List Slot). slot_at ss place) items ∙ get_or-set_same now.slots.items place slot blank fits in
      let else_same : (p : ℕ) → p ≢ place → slot_at slots.items p ≡ slot_at now.slots.items p = λ p ne. ap (λ (ss : List Slot). slot_at ss p) items ∙ get_or-set_other now.slots.items place p slot blank ne in
      let counted : (p : ℕ) → times p (was.left ++ place ∷ []) ≡ times p was.left + hit p place = λ p.
      let both = times_append p was.left (place ∷ []) in let one = times_cons p place [] in let none : times p [] ≡ 0 = refl in omega (arith, both, one, none) in
      let below : All (λ x. x < place) was.left = All-weaker (λ x. x < now.seat.me.0.reached) (λ x. x < place) (λ x lt. omega (arith, lt, rises, number)) was.left was.reached in
      let before = was.later in
      let good : IsReadAt asked disk (lane_faults lane_first) (lane_faults next) slot = read_next asked disk _ (lane_faults lane) _ place slot within is read before in
      record {
        own = own;
        come = (let come = was.come in omega (arith, come, rises, reached));
        parts = parts ∙ was.parts;
        left = was.left ++ place ∷ [];
        claimed = drawn.claimed ∙ (λ i. was.claimed i ++ number i ∷ []) ∙ append_assoc first.seat.me.0.claimed was.left (place ∷ []);
        rising = rises_on first.seat.me.0.reached place was.left was.rising below (omega (arith, least, rises, number));
        reached = All-push (λ x. x < seat.me.0.reached) was.left place (All-weaker (λ x. x < place) (λ x. x < seat.me.0.reached) (λ x lt. omega (arith, lt, reached, number)) was.left below) (omega (arith, reached, number));
        least = omega (arith, least, rises, reached);
        within = All-push (λ p. p < length asked.jobs.now) was.left place was.within within;
        seen = subst (λ (es : List Event). Notes es (lane_seen lane_first) (lane_seen next)) (sym (reads_more asked was.left place))
            (joined (reads_of asked was.left) (Read (job_at asked.jobs.now place).cell ∷ []) (lane_seen lane_first) (lane_seen lane) (lane_seen next) was.seen seen);
        later = omega (arith, before, on);
        long = ap length items ∙ length-set now.slots.items place slot ∙ was.long;
        read = λ p some. dite (ℕ_discrete p place)
            (λ same. subst (λ (s : Slot). IsReadAt asked disk (lane_faults lane_first) (lane_faults next) s × (s.place ≡ p)) (sym (ap (slot_at slots.items) same ∙ here)) (good, is ∙ sym same))
            (λ ne.
            let c = counted p in
            let none = hit_no p place (λ e. ne (sym e)) in
            let old = was.read p (omega (arith, some, c, none)) in
            subst (λ (s : Slot). IsReadAt asked disk (lane_faults lane_first) (lane_faults next) s × (s.place ≡ p)) (sym (else_same p ne)) (read_on asked disk _ _ _ (slot_at now.slots.items p) on old.0, old.1));
        others = λ p none. dite (ℕ_discrete p place)
            (λ same. let c = counted p in let one = hit_yes p place (sym same) in absurd (omega (arith, none, c, one)))
            (λ ne. let c = counted p in else_same p ne ∙ was.others p (omega (arith, none, c)));
        rest = λ i. record (was.rest i) { seat = seat; slots = slots };
      }

  left_with : (lane_first lane : L) (first now : Readers L) (seat : ClaimSeat) (beyond : List ℕ) → IsReadingLeft lane_first lane first now → All (λ x. length asked.jobs.now ≤ x) beyond → seat.me.0.claimed ≡ now.seat.me.0.claimed ++ beyond
      → AreLeftRead disk lane_seen lane_faults asked lane_first lane first (record now { seat = seat })
  left_with lane_first lane first now seat beyond was behind claimed = record {
    left = was.left;
    beyond = beyond;
    behind = behind;
    claimed = claimed ∙ ap (λ (xs : List ℕ). xs ++ beyond) was.claimed ∙ append_assoc first.seat.me.0.claimed was.left beyond;
    rising = was.rising;
    within = was.within;
    seen = was.seen;
    long = was.long;
    read = was.read;
    others = was.others;
  }

  pub left_ends : (lane_first lane : L) (first now : Readers L) (seat : ClaimSeat) → IsReadingLeft lane_first lane first now → round.start ≡ 0 → round.count ≡ length asked.jobs.now → FindsNone now.seat seat round
      → AreLeftRead disk lane_seen lane_faults asked lane_first lane first (record now { seat = seat })
  left_ends lane_first lane first now seat was start count none = ⊎_elim
      (λ same. left_with lane_first lane first now seat [] was (All-nil (λ x. length asked.jobs.now ≤ x)) (same ∙ sym (append-nil now.seat.me.0.claimed)))
      (λ more. left_with lane_first lane first now seat (more.0 ∷ []) was (All-cons (λ x. length asked.jobs.now ≤ x) more.0 [] (let past = more.1 in omega (arith, past, start, count)) (All-nil (λ x. length asked.jobs.now ≤ x))) more.2)
      none.claimed
