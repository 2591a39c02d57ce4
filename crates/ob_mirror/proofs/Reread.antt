-- Hands that both halves have read are read of the mirror.
use Rattle.std.proofs.Common.{◌≡◌, ◌≤◌, ◌<◌, ◌^◌, ℕ, zero, suc, List, [], ◌∷◌, ◌++◌, Option, Some, None, Result, Ok, Err, IfErr, Bool, true, false, if◌then◌else◌, length, refl, sym, ◌∙◌, ap, subst, arith, inl, inr, ⊎_elim}
use Rattle.std.specs.Borrow.{GName}
use Rattle.std.specs.Prelude.{vec_capacity}
use Rattle.std.specs.List.{All}
use Rattle.std.proofs.lemmas.List.{get_or_default}
use Rattle.ob_base.specs.Causes.{Rose}
use Rattle.ob_base.specs.declared.fault.Fault.{Fault}
use Rattle.ob_base.specs.declared.fault.Fault.TheVariants.{Memory, Usage, BadScript, BadParams, NotStore, Damaged, StoreFault, StashFull, Worn, SourceFault, SinkFault}
use Rattle.ob_base.specs.declared.job.Job.{Job}
use Rattle.ob_base.specs.Planned.{job_at}
use Rattle.ob_seal.specs.declared.keys.Keys.{Keys}
use Rattle.ob_store.specs.declared.event.Event.{Event}
use Rattle.ob_store.specs.declared.store.Store.{Ghosts}
use Rattle.ob_store.specs.Disk.{Disk, Image}
use Rattle.ob_store.specs.Calls.{IsStoreFault}
use Rattle.ob_claims.specs.declared.claims.Claims.{Claims}
use Rattle.ob_claims.specs.declared.claims.Round.{Round}
use Rattle.ob_claims.specs.ClaimCalls.{ClaimSeat, HasCome, IsClaimSeat}
use Rattle.ob_lanes.specs.declared.hand.Hand.{Hand}
use Rattle.ob_lanes.specs.declared.hand.SealedJobs.{SealedJobs}
use Rattle.ob_lanes.specs.declared.hand.Slot.{Slot}
use Rattle.ob_lanes.specs.Hands.{HasClaimed, IsHandDone, IsHandRead, IsHandReady, IsPlaceRead, IsPlaceReady, IsReadAt, slot_places, reads_of, slot_at}
use Rattle.ob_lanes.specs.JobReads.{IsJobRead, IsSlotRead}
use Rattle.ob_lanes.specs.Shares.{RiseFrom}
use Rattle.ob_mirror.specs.declared.lane.MirrorLane.{MirrorLane}
use Rattle.ob_mirror.specs.declared.lane.SecondLane.{SecondLane}
use Rattle.ob_mirror.specs.Both.{saturating_sum}
use Rattle.ob_mirror.specs.Mirrored.{Agree, Together, mirrored}
use Rattle.ob_mirror.specs.Reading.{AreMended, IsHandReadOfEither, IsMended, IsParted, IsPlaceMended, IsPlaceReadOfEither, HasPlacesOfJobs, TellLanes, TellPlaces, is_refused, with_refusals}
use Rattle.ob_mirror.proofs.Tells.{part_read}

abbrev blank : Slot
blank = record { place = 0; outcome = Ok [] }

-- one refusal more, and any number
refused_more : (n : ℕ) (refused : Bool) → n < 2 ^ 64 → n ≤ (if refused then saturating_sum n 1 else n)
refused_more n true le = omega arith
refused_more n false le = omega arith

refusals_few : (n : ℕ) (refused : Bool) → n < 2 ^ 64 → (if refused then saturating_sum n 1 else n) < 2 ^ 64
refusals_few n true le = omega arith
refusals_few n false le = le

refusals_on : (slots : List Slot) (n : ℕ) → n < 2 ^ 64 → n ≤ with_refusals slots n
refusals_on [] n le = omega arith
refusals_on (x ∷ xs) n le =
    let refused = is_refused x.outcome in
    let one = refused_more n refused le in
    let rest = refusals_on xs (if refused then saturating_sum n 1 else n) (refusals_few n refused le) in
    omega (arith, one, rest)

-- where a slot of these failed the count rose
refused_rose : (slots : List Slot) (n : ℕ) (i : ℕ) → i < length slots → is_refused (slot_at slots i).outcome ≡ true → n < 2 ^ 64 → Rose n (with_refusals slots n)
refused_rose [] n i lt is le = absurd (omega arith)
refused_rose (x ∷ xs) n zero lt is le =
    let one : (if is_refused x.outcome then saturating_sum n 1 else n) ≡ saturating_sum n 1 = ap (λ (r : Bool). if r then saturating_sum n 1 else n) is in
    let on = refusals_on xs (saturating_sum n 1) (omega arith) in
    subst (λ (m : ℕ). Rose n (with_refusals xs m)) (sym one) (omega (arith, on))
refused_rose (x ∷ xs) n (suc i) lt is le =
    let refused = is_refused x.outcome in
    let one = refused_more n refused le in
    let rest = refused_rose xs (if refused then saturating_sum n 1 else n) i (omega (arith, lt)) is (refusals_few n refused le) in
    omega (arith, one, rest)

-- an outcome is the store's fault only where the read was refused
fault_refused : (fault : Fault) (P : Type 0) → (◌≡◌ {A = Bool} (is_refused (Err fault)) true → P) → IsStoreFault fault → P
fault_refused (StoreFault unsure) P on is = on refl
fault_refused (Damaged cell check kept computed) P on is = absurd is
fault_refused Memory P on is = absurd is
fault_refused Usage P on is = absurd is
fault_refused (BadScript line) P on is = absurd is
fault_refused (BadParams field) P on is = absurd is
fault_refused NotStore P on is = absurd is
fault_refused (StashFull rows) P on is = absurd is
fault_refused (Worn number) P on is = absurd is
fault_refused SourceFault P on is = absurd is
fault_refused SinkFault P on is = absurd is

cause_refused : (outcome : Result (List ℕ) Fault) (P : Type 0) → (is_refused outcome ≡ true → P) → IfErr outcome (λ f. IsStoreFault f → P)
cause_refused (Ok plain) P on = tt
cause_refused (Err fault) P on = fault_refused fault P on

-- a read that was refused raised the count
refused_cause : (outcome : Result (List ℕ) Fault) (before now : ℕ) → is_refused outcome ≡ true → IfErr outcome (λ f. IsStoreFault f → Rose before now) → 0 < now
refused_cause (Ok plain) before now is cause = absurd (let wrong : false ≡ true = is in cc)
refused_cause (Err (StoreFault unsure)) before now is cause = let rose = cause tt in omega (arith, rose)
refused_cause (Err (Damaged cell check kept computed)) before now is cause = absurd (let wrong : false ≡ true = is in cc)
refused_cause (Err Memory) before now is cause = absurd (let wrong : false ≡ true = is in cc)
refused_cause (Err Usage) before now is cause = absurd (let wrong : false ≡ true = is in cc)
refused_cause (Err (BadScript line)) before now is cause = absurd (let wrong : false ≡ true = is in cc)
refused_cause (Err (BadParams field)) before now is cause = absurd (let wrong : false ≡ true = is in cc)
refused_cause (Err NotStore) before now is cause = absurd (let wrong : false ≡ true = is in cc)
refused_cause (Err (StashFull rows)) before now is cause = absurd (let wrong : false ≡ true = is in cc)
refused_cause (Err (Worn number)) before now is cause = absurd (let wrong : false ≡ true = is in cc)
refused_cause (Err SourceFault) before now is cause = absurd (let wrong : false ≡ true = is in cc)
refused_cause (Err SinkFault) before now is cause = absurd (let wrong : false ≡ true = is in cc)

-- slots that stand at the places of others
same_places : (old new : List Slot) → length new ≡ length old → ((i : ℕ) → i < length old → (slot_at new i).place ≡ (slot_at old i).place) → slot_places new ≡ slot_places old
same_places [] [] many each = refl
same_places [] (y ∷ ys) many each = absurd (omega (arith, many))
same_places (x ∷ xs) [] many each = absurd (omega (arith, many))
same_places (x ∷ xs) (y ∷ ys) many each =
    ap (λ (p : ℕ). p ∷ slot_places ys) (each zero (omega arith)) ∙ ap (λ (ps : List ℕ). x.place ∷ ps) (same_places xs ys (omega (arith, many)) (λ i lt. each (suc i) (omega (arith, lt))))

module _ (x y : GName) (apart : Bool) (a0 b0 : Disk) (made : List Event) (failed : ℕ) (a b : Disk) (agree : Agree (Together apart a0 b0) a b) where
  abbrev both_halves : Disk
  both_halves = mirrored x y apart a0 b0 made failed a b

  -- what the second half gave of a job is what the mirror's cells give, and so what the first gave
  second_value : (keys : Keys) (before now : ℕ) (job : Job) (slot : Slot) → IsSlotRead keys b before now job slot → both_halves.tells → IsJobRead keys a.cells job slot.outcome
  second_value keys before now job slot read tells = subst (λ (image : Image). IsJobRead keys image job slot.outcome) (λ i k. agree tells.0 tells.1 tells.2 k i) (read.value tells.2)

  slot_by : (asked : SealedJobs) (fa fa' fb fb' before now : ℕ) (one two : Slot) (refused : Bool) → is_refused one.outcome ≡ refused → (is_refused two.outcome ≡ true → Rose before now) → IsReadAt asked a fa fa' one → IsMended asked b fb fb' one two → IsReadAt asked both_halves before now two
  slot_by asked fa fa' fb fb' before now one two false is rose read mended =
      let good = mended.good is in record {
        within = (let at = mended.place in let lt = read.within in omega (arith, at, lt));
        read = subst (λ (s : Slot). (is_refused s.outcome ≡ true → Rose before now) → IsSlotRead asked.sealer.now.keys both_halves before now (job_at asked.jobs.now s.place) s) (sym good)
            (λ on. record { value = λ tells. read.read.value tells.1; faults = read.read.faults; cause = cause_refused one.outcome _ on }) rose;
      }
  slot_by asked fa fa' fb fb' before now one two true is rose read mended =
      let again = mended.bad is in record {
        within = (let at = mended.place in let lt = read.within in omega (arith, at, lt));
        read = subst (λ (p : ℕ). IsSlotRead asked.sealer.now.keys both_halves before now (job_at asked.jobs.now p) two) (sym mended.place) (record {
          value = second_value asked.sealer.now.keys fb fb' (job_at asked.jobs.now one.place) two again;
          faults = again.faults;
          cause = cause_refused two.outcome _ rose;
        });
      }

  module _ {A B L M : Type 0} {ga : Ghosts A L} {gb : Ghosts B M} (seen_a : L → Option (List Event)) (faults_a : L → ℕ) (seen_b : M → Option (List Event)) (faults_b : M → ℕ) (claims : Claims) (round : Round) (asked : SealedJobs) where
    -- the seat that a hand read with, and the places that it had claimed
    claimed_so : (tried : Hand L) (new : Hand (MirrorLane A B L M ga gb)) → new.seat ≡ tried.seat → slot_places new.part.items ≡ slot_places tried.part.items → HasClaimed claims round tried → HasClaimed claims round new
    claimed_so tried new seat places was =
        let beyond = was.beyond in record {
          own = subst (IsClaimSeat claims) (sym seat) was.own;
          come = subst (λ (s : ClaimSeat). HasCome s round) (sym seat) was.come;
          beyond = beyond;
          behind = was.behind;
          claimed = ap (λ (s : ClaimSeat). s.me.0.claimed) seat ∙ was.claimed ∙ ap (λ (ps : List ℕ). ps ++ beyond) (sym places);
          rising = subst (RiseFrom 0) (sym places) was.rising;
          reached = subst (λ (ps : List ℕ). All (λ x. x < new.seat.me.0.reached) ps) (sym places) (subst (λ (n : ℕ). All (λ x. x < n) (slot_places tried.part.items)) (sym (ap (λ (s : ClaimSeat). s.me.0.reached) seat)) was.reached);
        }

    hand_read : (old new : Hand (MirrorLane A B L M ga gb)) → IsHandReadOfEither seen_a faults_a seen_b faults_b a b claims round asked old new
        → IsHandRead both_halves (λ (l : MirrorLane A B L M ga gb). Some l.second.reads.events) (λ (l : MirrorLane A B L M ga gb). l.second.failed) claims round asked old new
    hand_read old new by =
        let many = by.second.many in
        let before = old.lane.second.failed in
        let places : slot_places new.part.items ≡ slot_places by.tried.part.items = same_places by.tried.part.items new.part.items many (λ i lt. (by.second.each i lt).place) in record {
          seat = claimed_so by.tried new by.seat places by.first.seat;
          parts = ap (λ (s : ClaimSeat). s.me.0.parts) by.seat ∙ by.first.parts;
          read = λ k d lt. let lt' : k < length by.tried.part.items = omega (arith, lt, many) in
              subst (λ (s : Slot). IsReadAt asked both_halves before new.lane.second.failed s) (get_or_default new.part.items k blank d lt)
              (slot_by asked (faults_a old.lane.first) (faults_a by.tried.lane) (faults_b old.lane.second.lane) (faults_b new.lane.second.lane) before new.lane.second.failed (slot_at by.tried.part.items k) (slot_at new.part.items k) (is_refused (slot_at by.tried.part.items k).outcome) refl
              (λ is. subst (Rose before) (sym by.second.failed) (refused_rose new.part.items before k lt is by.second.few)) (by.first.read k blank lt') (by.second.each k lt'));
          seen = by.second.log ∙ ap (λ (ps : List ℕ). old.lane.second.reads.events ++ reads_of asked ps) (sym places);
          later = subst (λ (n : ℕ). before ≤ n) (sym by.second.failed) (refusals_on new.part.items before by.second.few);
          room = by.room;
        }

    hand_done : (old new : Hand (MirrorLane A B L M ga gb)) → IsHandReadOfEither seen_a faults_a seen_b faults_b a b claims round asked old new → IsHandDone round new
    hand_done old new by =
        let full = by.room in
        let whole = by.first.room in
        let many = by.second.many in
        let reached : new.seat.me.0.reached ≡ by.tried.seat.me.0.reached = ap (λ (s : ClaimSeat). s.me.0.reached) by.seat in
        ⊎_elim (λ le. inl (omega (arith, le, full, whole, many))) (λ le. inr (omega (arith, le, reached))) by.done

    pub place_read : (old new : Option (Hand (MirrorLane A B L M ga gb))) → IsPlaceReadOfEither seen_a faults_a seen_b faults_b a b claims round asked old new
        → IsPlaceRead both_halves (λ (l : MirrorLane A B L M ga gb). Some l.second.reads.events) (λ (l : MirrorLane A B L M ga gb). l.second.failed) claims round asked old new
    place_read (Some old) (Some new) by = (hand_read old new by, hand_done old new by)
    place_read (Some old) None by = by
    place_read None (Some new) by = by
    place_read None None by = by

-- what a hand has read are jobs
pub read_within : {L : Type 0} (claims : Claims) (round : Round) (asked : SealedJobs) (a : Disk) (seen : L → Option (List Event)) (faults : L → ℕ) (out back : Option (Hand L)) → IsPlaceRead a seen faults claims round asked out back → HasPlacesOfJobs asked back
read_within claims round asked a seen faults (Some out) (Some back) read = λ i lt. (read.0.read i blank lt).within
read_within claims round asked a seen faults (Some out) None read = absurd read
read_within claims round asked a seen faults None (Some back) read = absurd read
read_within claims round asked a seen faults None None read = tt

-- lanes that told so, the first half's having read since
pub places_told : {L M : Type 0} (claims : Claims) (round : Round) (asked : SealedJobs) (a : Disk) (seen_a : L → Option (List Event)) (faults_a : L → ℕ) (seen_b : M → Option (List Event)) (out back : Option (Hand L)) (second : Option (SecondLane M))
    → TellLanes seen_a faults_a seen_b out second → IsPlaceRead a seen_a faults_a claims round asked out back → TellPlaces seen_a faults_a seen_b asked back second
places_told claims round asked a seen_a faults_a seen_b (Some out) (Some back) (Some second) told read = part_read seen_a faults_a seen_b asked out back second told read.0.later (λ i lt is. refused_cause (slot_at back.part.items i).outcome (faults_a out.lane) (faults_a back.lane) is (read.0.read i blank lt).read.cause) read.0.seen
places_told claims round asked a seen_a faults_a seen_b (Some out) (Some back) None told read = tt
places_told claims round asked a seen_a faults_a seen_b (Some out) None second told read = absurd read
places_told claims round asked a seen_a faults_a seen_b None (Some back) second told read = absurd read
places_told claims round asked a seen_a faults_a seen_b None None second told read = tt

module _ {A B L M : Type 0} {ga : Ghosts A L} {gb : Ghosts B M} (claims : Claims) (round : Round) (asked : SealedJobs) where
  -- a hand that was parted is as ready as it was
  pub parted_ready : (old : Option (Hand (MirrorLane A B L M ga gb))) (out : Option (Hand L)) (second : Option (SecondLane M)) → IsPlaceReady claims round old → IsParted old out second → IsPlaceReady claims round out
  parted_ready (Some old) (Some out) (Some second) ready parted = subst (IsHandReady claims round) (sym parted.0) (record { own = ready.own; come = ready.come; start = ready.start; unclaimed = ready.unclaimed; empty = ready.empty })
  parted_ready (Some old) (Some out) None ready parted = absurd parted
  parted_ready (Some old) None second ready parted = absurd parted
  parted_ready None (Some out) second ready parted = absurd parted
  parted_ready None None second ready parted = tt

  module _ (seen_a : L → Option (List Event)) (faults_a : L → ℕ) (seen_b : M → Option (List Event)) (faults_b : M → ℕ) (a b : Disk) where
    -- a hand was parted, read by the first half, and put together again
    pub place_by : (old : Option (Hand (MirrorLane A B L M ga gb))) (out back : Option (Hand L)) (second : Option (SecondLane M)) (new : Option (Hand (MirrorLane A B L M ga gb)))
        → IsParted old out second → IsPlaceRead a seen_a faults_a claims round asked out back → IsPlaceMended asked b seen_b faults_b back second new → IsPlaceReadOfEither seen_a faults_a seen_b faults_b a b claims round asked old new
    place_by (Some old) (Some out) (Some back) (Some second) (Some new) parted read mended = record {
      tried = back;
      first = subst (λ (h : Hand L). IsHandRead a seen_a faults_a claims round asked h back) parted.0 read.0;
      done = read.1;
      second = subst (λ (s : SecondLane M). AreMended asked b seen_b faults_b back.part.items new.part.items s new.lane.second) parted.1 mended.mended;
      lane = mended.lane;
      seat = mended.seat;
      room = mended.room ∙ read.0.room ∙ ap (λ (h : Hand L). vec_capacity h.part) parted.0;
    }
    place_by (Some old) (Some out) (Some back) (Some second) None parted read mended = mended
    place_by (Some old) (Some out) None (Some second) new parted read mended = absurd read
    place_by (Some old) (Some out) back None new parted read mended = absurd parted
    place_by (Some old) None back second new parted read mended = absurd parted
    place_by None (Some out) back second new parted read mended = absurd parted
    place_by None None (Some back) second new parted read mended = absurd read
    place_by None None None (Some second) new parted read mended = absurd parted
    place_by None None None None (Some new) parted read mended = absurd (let wrong : Some new ≡ None = mended in cc)
    place_by None None None None None parted read mended = tt
