-- A hand that claims some places, reads the cells of their jobs, and then opens them.
use Rattle.std.proofs.Common.{◌≡◌, ◌<◌, ◌≤◌, ◌+◌, ℕ, List, [], ◌∷◌, ◌++◌, length, set, take, Err, refl, sym, ap, subst, ◌∙◌, arith, ⊎_elim, vec_capacity, append_assoc, get_or-set_same, get_or-set_other, Option, Result, OnErr, OnOk, Ok, IfErr, IsErr}
use Rattle.std.specs.List.{All}
use Rattle.std.specs.Global.{Vec}
use Rattle.std.proofs.lemmas.List.{append-nil, get_or-take, length-take, map-append}
use Rattle.std.proofs.lemmas.List.Elements.{All-nil, All-append, All-cons, All-push, All-weaker, All-head, All-tail}
use Rattle.std.proofs.lemmas.Bool.{false≢true}
use mathlib.Core.Logic.{dite}
use native.Mathlib.Decide.{ℕ_discrete}
use Rattle.ob_base.specs.Causes.{Rose}
use Rattle.ob_base.specs.Planned.{job_at}
use Rattle.ob_base.specs.declared.fault.Fault.{Fault}
use Rattle.ob_base.specs.declared.job.Job.{Job}
use Rattle.ob_store.specs.declared.event.Event.{Event}
use Rattle.ob_store.specs.Disk.{Disk}
use Rattle.ob_store.specs.Calls.{IsStoreFault, Notes}
use Rattle.ob_store.proofs.Events.{joined}
use Rattle.ob_claims.specs.declared.claims.Claims.{Claims}
use Rattle.ob_claims.specs.declared.claims.Round.{Round}
use Rattle.ob_claims.specs.ClaimCalls.{ClaimSeat, IsClaimSeat, HasCome, ClaimsNumber, FindsNone}
use Rattle.ob_lanes.specs.declared.hand.SealedJobs.{SealedJobs}
use Rattle.ob_lanes.specs.declared.hand.Slot.{Slot}
use Rattle.ob_lanes.specs.declared.hand.Hand.{Hand}
use Rattle.ob_lanes.specs.declared.window.RawCell.{RawCell}
use Rattle.ob_lanes.specs.Hands.{IsHandRead, IsReadAt, slot_places, reads_of}
use Rattle.ob_lanes.specs.JobReads.{IsSlotRead}
use Rattle.ob_lanes.specs.Shares.{RiseFrom}
use Rattle.ob_lanes.specs.Windows.{AreCellsRead, AreOpened, HaveDrawn, IsCellRead, IsOfWindow, IsSlotOpened, claimed_at, raw_at}
use Rattle.ob_lanes.proofs.Claiming.{IsReading, rises_on}
use Rattle.ob_lanes.proofs.SlotReads.{read_on, read_rose, rose_from, rose_on}

-- ---- places that are claimed one by one

-- the seat has claimed these places, and no number behind the round
pub record IsDrawing (claims : Claims) (round : Round) (first now : ClaimSeat) (places : List ℕ) : Type 0 where
  pub own : IsClaimSeat claims now
  pub come : HasCome now round
  pub parts : now.me.0.parts ≡ first.me.0.parts
  pub least : first.me.0.reached ≤ now.me.0.reached
  pub claimed : now.me.0.claimed ≡ first.me.0.claimed ++ places
  pub rising : RiseFrom first.me.0.reached places
  pub reached : All (λ x. x < now.me.0.reached) places
  pub within : All (λ x. x < round.count) places

pub draws_none : (claims : Claims) (round : Round) (seat : ClaimSeat) → IsClaimSeat claims seat → HasCome seat round → IsDrawing claims round seat seat []
draws_none claims round seat own come = record {
  own = own;
  come = come;
  parts = refl;
  least = omega arith;
  claimed = sym (append-nil seat.me.0.claimed);
  rising = tt;
  reached = All-nil (λ x. x < seat.me.0.reached);
  within = All-nil (λ x. x < round.count);
}

pub draws_more : (claims : Claims) (round : Round) (first now next : ClaimSeat) (places : List ℕ) (place : ℕ) → IsDrawing claims round first now places → round.start ≡ 0
    → IsClaimSeat claims next → next.me.0.parts ≡ now.me.0.parts → ClaimsNumber now next round place → IsDrawing claims round first next (places ++ place ∷ [])
draws_more claims round first now next places place was start own parts drawn =
    let number : round.start + place ≡ place = omega (arith, start) in
    let rises = drawn.rises in
    let reached = drawn.reached in
    let least = was.least in
    let below : All (λ x. x < place) places = All-weaker (λ x. x < now.me.0.reached) (λ x. x < place) (λ x lt. omega (arith, lt, rises, number)) places was.reached in record {
      own = own;
      come = (let come = was.come in omega (arith, come, rises, reached));
      parts = parts ∙ was.parts;
      least = omega (arith, least, rises, reached);
      claimed = drawn.claimed ∙ (λ i. was.claimed i ++ number i ∷ []) ∙ append_assoc first.me.0.claimed places (place ∷ []);
      rising = rises_on first.me.0.reached place places was.rising below (omega (arith, least, rises, number));
      reached = All-push (λ x. x < next.me.0.reached) places place (All-weaker (λ x. x < place) (λ x. x < next.me.0.reached) (λ x lt. omega (arith, lt, reached, number)) places below) (omega (arith, reached, number));
      within = All-push (λ x. x < round.count) places place was.within drawn.within;
    }

drawn_with : (claims : Claims) (round : Round) (wanted got : ℕ) (first now seat : ClaimSeat) (places beyond : List ℕ) → IsDrawing claims round first now places → IsClaimSeat claims seat → seat.me.0.parts ≡ now.me.0.parts → now.me.0.reached ≤ seat.me.0.reached
    → All (λ x. round.count ≤ x) beyond → seat.me.0.claimed ≡ now.me.0.claimed ++ beyond → (wanted ≤ got → beyond ≡ []) → (got < wanted → round.start + round.count ≤ seat.me.0.reached) → HaveDrawn claims round wanted got first seat places
drawn_with claims round wanted got first now seat places beyond was own parts rises behind claimed more done =
    let least = was.least in record {
      own = own;
      parts = parts ∙ was.parts;
      least = omega (arith, least, rises);
      beyond = beyond;
      behind = behind;
      claimed = claimed ∙ ap (λ (xs : List ℕ). xs ++ beyond) was.claimed ∙ append_assoc first.me.0.claimed places beyond;
      rising = was.rising;
      reached = All-weaker (λ x. x < now.me.0.reached) (λ x. x < seat.me.0.reached) (λ x lt. omega (arith, lt, rises)) places was.reached;
      within = was.within;
      more = more;
      done = done;
    }

-- all that were wanted
pub draws_all : (claims : Claims) (round : Round) (wanted : ℕ) (first now : ClaimSeat) (places : List ℕ) → IsDrawing claims round first now places → HaveDrawn claims round wanted wanted first now places
draws_all claims round wanted first now places was = drawn_with claims round wanted wanted first now now places [] was was.own refl (omega arith) (All-nil (λ x. round.count ≤ x)) (sym (append-nil now.me.0.claimed)) (λ all. refl) (λ fewer. absurd (omega (arith, fewer)))

-- no place is left
pub draws_last : (claims : Claims) (round : Round) (wanted got : ℕ) (first now seat : ClaimSeat) (places : List ℕ) → IsDrawing claims round first now places → round.start ≡ 0 → got < wanted
    → IsClaimSeat claims seat → seat.me.0.parts ≡ now.me.0.parts → now.me.0.reached ≤ seat.me.0.reached → FindsNone now seat round → HaveDrawn claims round wanted got first seat places
draws_last claims round wanted got first now seat places was start fewer own parts rises none = ⊎_elim
    (λ same. drawn_with claims round wanted got first now seat places [] was own parts rises (All-nil (λ x. round.count ≤ x)) (same ∙ sym (append-nil now.me.0.claimed)) (λ all. refl) (λ less. none.past))
    (λ more. drawn_with claims round wanted got first now seat places (more.0 ∷ []) was own parts rises (All-cons (λ x. round.count ≤ x) more.0 [] (let past = more.1 in omega (arith, past, start)) (All-nil (λ x. round.count ≤ x))) more.2
    (λ all. absurd (omega (arith, all, fewer))) (λ less. none.past))
    none.claimed

-- so the places lie in the round
pub drawn_within : (many most : ℕ) (places : List ℕ) → many ≤ length places → All (λ x. x < most) (take many places) → (i : ℕ) → i < many → claimed_at places i < most
drawn_within many most places long below i lt =
    let there : i < length (take many places) = (let l = length-take many places in omega (arith, l, lt, long)) in
    let inside : claimed_at (take many places) i < most = below i 0 there in
    let same : claimed_at (take many places) i ≡ claimed_at places i = get_or-take many places i 0 lt in omega (arith, inside, same)

-- ---- cells that are read one behind another

err_on : {T E : Type 0} (P Q : Type 0) (r : Result T E) → (P → Q) → OnErr r P → OnErr r Q
err_on P Q (Ok v) on h = tt
err_on P Q (Err e) on h = on h

-- a cell that was read, as counts of faults go on
pub cell_on : (disk : Disk) (first before now later : ℕ) (job : Job) (cell : RawCell) → first ≤ before → now ≤ later → IsCellRead disk before now job cell → IsCellRead disk first later job cell
cell_on disk first before now later job cell le on read = record {
  bytes = read.bytes;
  cause = (let between = read.cause.later in record { later = omega (arith, le, between, on); failed = err_on (Rose before now) (Rose first later) cell.read (λ rose. rose_on first now later on (rose_from first before now le rose)) read.cause.failed });
}

pub cells_go_on : (disk : Disk) (first now later i : ℕ) (asked : SealedJobs) (places : List ℕ) (cells : List RawCell) (cell : RawCell) → AreCellsRead disk first now asked i places cells → first ≤ now → now ≤ later → i < length cells
    → IsCellRead disk now later (job_at asked.jobs.now (claimed_at places i)) cell → AreCellsRead disk first later asked (i + 1) places (set cells i cell)
cells_go_on disk first now later i asked places cells cell was le on lt read = λ k less.
    let blank : RawCell = record { bytes = []; read = Ok tt } in
    dite (ℕ_discrete k i)
    (λ same.
    let here : raw_at (set cells i cell) k ≡ cell = ap (raw_at (set cells i cell)) same ∙ get_or-set_same cells i cell blank lt in
    subst (λ (c : RawCell). IsCellRead disk first later (job_at asked.jobs.now (claimed_at places k)) c) (sym here)
    (subst (λ (j : ℕ). IsCellRead disk first later (job_at asked.jobs.now (claimed_at places j)) cell) (sym same) (cell_on disk first now later later _ cell le (omega arith) read)))
    (λ ne.
    let there : raw_at (set cells i cell) k ≡ raw_at cells k = get_or-set_other cells i k cell blank ne in
    subst (λ (c : RawCell). IsCellRead disk first later (job_at asked.jobs.now (claimed_at places k)) c) (sym there)
    (cell_on disk first first now later _ (raw_at cells k) (omega arith) on (was k (omega (arith, less, ne)))))

-- ---- slots that are opened one by one

pub ok_at : {V E : Type 0} (P : Type 0) (r : Result V E) (v : V) → r ≡ Ok v → OnOk r P → P
ok_at {V = V} {E = E} P r v is h = subst (λ (x : Result V E). OnOk x P) is h

pub opens_none : (asked : SealedJobs) (many : ℕ) (places : List ℕ) (cells : List RawCell) (part : List Slot) → AreOpened asked many places cells [] part part
opens_none asked many places cells part = record { behind = []; items = sym (append-nil part); at = refl; opened = All-nil (IsOfWindow asked many places cells) }

pub opens_more : (asked : SealedJobs) (many i : ℕ) (places now : List ℕ) (cells : List RawCell) (slot : Slot) (first part : List Slot) → AreOpened asked many places cells now first part → i < many → slot.place ≡ claimed_at places i
    → IsSlotOpened asked.sealer.now.keys (job_at asked.jobs.now (claimed_at places i)) (raw_at cells i) slot → AreOpened asked many places cells (now ++ claimed_at places i ∷ []) first (part ++ slot ∷ [])
opens_more asked many i places now cells slot first part was lt is opened = record {
  behind = was.behind ++ slot ∷ [];
  items = ap (λ (ss : List Slot). ss ++ slot ∷ []) was.items ∙ append_assoc first was.behind (slot ∷ []);
  at = map-append (λ s. s.place) was.behind (slot ∷ []) ∙ (λ k. was.at k ++ is k ∷ []);
  opened = All-push (IsOfWindow asked many places cells) was.behind slot was.opened (record { at = i; there = lt; place = is; opened = opened });
}

err_if : {V : Type 0} (P Q : Fault → Type 0) (r : Result V Fault) → ((f : Fault) → P f → Q f) → IfErr r P → IfErr r Q
err_if P Q (Ok v) on h = tt
err_if P Q (Err f) on h = on f h

err_is : {V E : Type 0} (P : Type 0) (r : Result V E) → OnErr r P → IsErr r → P
err_is P (Ok v) h is = absurd (false≢true is)
err_is P (Err e) h is = h

-- a slot that was opened is one that was read
pub opened_read : (disk : Disk) (before now : ℕ) (asked : SealedJobs) (many : ℕ) (places : List ℕ) (cells : List RawCell) (slot : Slot) → ((i : ℕ) → i < many → claimed_at places i < length asked.jobs.now) → AreCellsRead disk before now asked many places cells
    → IsOfWindow asked many places cells slot → IsReadAt asked disk before now slot
opened_read disk before now asked many places cells slot within read at =
    let is = at.place in
    let inside : claimed_at places at.at < length asked.jobs.now = within at.at at.there in
    let cell : IsCellRead disk before now (job_at asked.jobs.now (claimed_at places at.at)) (raw_at cells at.at) = read at.at at.there in record {
      within = omega (arith, is, inside);
      read = subst (λ (p : ℕ). IsSlotRead asked.sealer.now.keys disk before now (job_at asked.jobs.now p) slot) (sym is) (record {
        value = λ tells. at.opened.value disk.cells (cell.bytes tells);
        faults = at.opened.faults;
        cause = err_if (λ f. IsStoreFault f → IsErr (raw_at cells at.at).read) (λ f. IsStoreFault f → Rose before now) slot.outcome (λ f cause blamed. err_is (Rose before now) (raw_at cells at.at).read cell.cause.failed (cause blamed)) at.opened.cause;
      });
    }

-- ---- a hand that has read so much

rise_joined : (least : ℕ) (xs ys : List ℕ) (mid : ℕ) → RiseFrom least xs → All (λ x. x < mid) xs → least ≤ mid → RiseFrom mid ys → RiseFrom least (xs ++ ys)
rise_joined least [] [] mid rise below le then = tt
rise_joined least [] (y ∷ ys) mid rise below le then = (let first = then.0 in omega (arith, le, first), then.1)
rise_joined least (x ∷ xs) ys mid rise below le then =
    let head : x < mid = All-head (λ y. y < mid) x xs below in
    (rise.0, rise_joined (x + 1) xs ys mid rise.1 (All-tail (λ y. y < mid) x xs below) (omega (arith, head)) then)

module _ {L : Type 0} (disk : Disk) (lane_seen : L → Option (List Event)) (lane_faults : L → ℕ) (claims : Claims) (round : Round) (asked : SealedJobs) where
  -- some places were claimed, and their jobs read and opened
  pub record IsWindowRead (now : Hand L) (seat : ClaimSeat) (lane : L) (part : Vec Slot) (wanted got : ℕ) (places : List ℕ) (cells : List RawCell) : Type 0 where
    pub drawn : HaveDrawn claims round wanted got now.seat seat (take got places)
    pub inside : (i : ℕ) → i < got → claimed_at places i < length asked.jobs.now
    pub seen : Notes (reads_of asked (take got places)) (lane_seen now.lane) (lane_seen lane)
    pub later : lane_faults now.lane ≤ lane_faults lane
    pub read : AreCellsRead disk (lane_faults now.lane) (lane_faults lane) asked got places cells
    pub opened : AreOpened asked got places cells (take got places) now.part.items part.items
    pub room : vec_capacity part ≡ vec_capacity now.part

  pub window_read : (now : Hand L) (seat : ClaimSeat) (lane : L) (part : Vec Slot) (wanted got : ℕ) (places : List ℕ) (cells : List RawCell) → round.count ≡ length asked.jobs.now → got ≤ wanted → wanted ≤ 8 → length places ≡ 8
      → HaveDrawn claims round wanted got now.seat seat (take got places) → Notes (reads_of asked (take got places)) (lane_seen now.lane) (lane_seen lane) → lane_faults now.lane ≤ lane_faults lane
      → AreCellsRead disk (lane_faults now.lane) (lane_faults lane) asked got places cells → AreOpened asked got places cells (take got places) now.part.items part.items → vec_capacity part ≡ vec_capacity now.part → IsWindowRead now seat lane part wanted got places cells
  window_read now seat lane part wanted got places cells count fewer few long drawn seen later read opened room = record {
    drawn = drawn;
    inside = λ i lt. let below = drawn_within got round.count places (omega (arith, fewer, few, long)) drawn.within i lt in omega (arith, below, count);
    seen = seen;
    later = later;
    read = read;
    opened = opened;
    room = room;
  }

  -- the hand may have claimed a number behind the round
  pub reads_window : (first now : Hand L) (seat : ClaimSeat) (lane : L) (part : Vec Slot) (wanted got : ℕ) (places : List ℕ) (cells : List RawCell) → IsReading disk lane_seen lane_faults claims round asked first now → IsWindowRead now seat lane part wanted got places cells
      → IsHandRead disk lane_seen lane_faults claims round asked first (record { lane = lane; seat = seat; part = part })
  reads_window first now seat lane part wanted got all_places cells was window =
      let places = take got all_places in
      let drawn = window.drawn in
      let opened = window.opened in
      let least = drawn.least in
      let before = was.later in
      let later = window.later in
      let together : slot_places part.items ≡ slot_places now.part.items ++ places = ap slot_places opened.items ∙ map-append (λ s. s.place) now.part.items opened.behind ∙ ap (λ (ps : List ℕ). slot_places now.part.items ++ ps) opened.at in record {
        seat = record {
          own = drawn.own;
          come = (let come = was.come in omega (arith, come, least));
          beyond = drawn.beyond;
          behind = drawn.behind;
          claimed = drawn.claimed ∙ ap (λ (xs : List ℕ). xs ++ (places ++ drawn.beyond)) was.claimed ∙ sym (append_assoc (slot_places now.part.items) places drawn.beyond) ∙ ap (λ (xs : List ℕ). xs ++ drawn.beyond) (sym together);
          rising = subst (RiseFrom 0) (sym together) (rise_joined 0 (slot_places now.part.items) places now.seat.me.0.reached was.rising was.reached (omega arith) drawn.rising);
          reached = subst (All (λ x. x < seat.me.0.reached)) (sym together) (All-append (λ x. x < seat.me.0.reached) (slot_places now.part.items) places
              (All-weaker (λ x. x < now.seat.me.0.reached) (λ x. x < seat.me.0.reached) (λ x lt. omega (arith, lt, least)) (slot_places now.part.items) was.reached) drawn.reached);
        };
        parts = drawn.parts ∙ was.parts;
        read = subst (All (IsReadAt asked disk (lane_faults first.lane) (lane_faults lane))) (sym opened.items)
            (All-append (IsReadAt asked disk (lane_faults first.lane) (lane_faults lane)) now.part.items opened.behind
            (All-weaker (IsReadAt asked disk (lane_faults first.lane) (lane_faults now.lane)) (IsReadAt asked disk (lane_faults first.lane) (lane_faults lane)) (λ s r. read_on asked disk _ _ _ s later r) now.part.items was.read)
            (All-weaker (IsOfWindow asked got all_places cells) (IsReadAt asked disk (lane_faults first.lane) (lane_faults lane))
            (λ s r. read_rose asked disk (lane_faults now.lane) (lane_faults lane) (lane_faults first.lane) (lane_faults lane) s (rose_from (lane_faults first.lane) (lane_faults now.lane) (lane_faults lane) before) (opened_read disk (lane_faults now.lane) (lane_faults lane) asked got all_places cells s window.inside window.read r)) opened.behind opened.opened));
        seen = subst (λ (es : List Event). Notes es (lane_seen first.lane) (lane_seen lane)) (sym (ap (reads_of asked) together ∙ map-append _ (slot_places now.part.items) places))
            (joined (reads_of asked (slot_places now.part.items)) (reads_of asked places) (lane_seen first.lane) (lane_seen now.lane) (lane_seen lane) was.seen window.seen);
        later = omega (arith, before, later);
        room = window.room ∙ was.room;
      }

  -- it has claimed none
  pub reads_on : (first now : Hand L) (seat : ClaimSeat) (lane : L) (part : Vec Slot) (wanted got : ℕ) (places : List ℕ) (cells : List RawCell) → IsReading disk lane_seen lane_faults claims round asked first now → IsWindowRead now seat lane part wanted got places cells → wanted ≤ got
      → IsReading disk lane_seen lane_faults claims round asked first (record { lane = lane; seat = seat; part = part })
  unfolding reads_window
  reads_on first now seat lane part wanted got places cells was window all =
      let whole = reads_window first now seat lane part wanted got places cells was window in
      let drawn = window.drawn in
      let none : drawn.beyond ≡ [] = drawn.more all in record {
        own = whole.seat.own;
        come = whole.seat.come;
        claimed = whole.seat.claimed ∙ ap (λ (xs : List ℕ). slot_places part.items ++ xs) none ∙ append-nil (slot_places part.items);
        rising = whole.seat.rising;
        reached = whole.seat.reached;
        parts = whole.parts;
        read = whole.read;
        seen = whole.seen;
        later = whole.later;
        room = whole.room;
      }
