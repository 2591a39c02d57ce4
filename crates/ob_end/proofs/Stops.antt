-- What an end that was refused leaves of the epoch's register, from what its set leaves.
use Rattle.std.proofs.Common.{◌≡◌, ◌<◌, ◌≤◌, ◌+◌, ◌-◌, ◌%◌, ℕ, zero, suc, filter, ⊎_elim, Bool, true, false, IsTrue, List, [], ◌∷◌, ◌++◌, length, length-append, length-take, Result, Ok, Err, ap, arith, subst, sym, ◌∙◌}
use Rattle.ob_base.specs.Layout.{EpochTwin}
use Rattle.ob_base.specs.declared.params.Params.{Params}
use Rattle.ob_end.specs.EndWrites.{SameFirst, end_write_notes}
use Rattle.ob_end.specs.Stops.{CloseStops, IsEpochLeft}
use Rattle.ob_log.specs.Logs.{BatchRecord}
use Rattle.ob_recover.proofs.Orders.{epoch_set}
use Rattle.ob_recover.specs.Known.{gates_open, public_of_kept}
use Rattle.ob_ring.specs.Ring.{Kept}
use Rattle.ob_schedule.specs.Paths.{by_falling_level}
use Rattle.ob_schedule.specs.Schedule.{Fills, Public, bucket_writes, check_cells, end_lifts, end_notes, gate_cell, is_lifted_by_end, log_gates, set_twin, writes_of, written_by_end}
use Rattle.ob_seal.specs.declared.keys.Keys.{Keys}
use Rattle.ob_store.proofs.Doing.{cut_behind, cut_more, tells_then}
use Rattle.ob_store.specs.Calls.{Keeps}
use Rattle.ob_store.specs.Disk.{Disk, Image}
use Rattle.ob_store.specs.Images.{IsSynced, Passes, Same}
use Rattle.ob_store.specs.Lines.{Trace}
use Rattle.ob_store.specs.Told.{IsCut, Tells, TellsFirst}
use Rattle.ob_store.specs.declared.watch.Note.{Note}
use Rattle.ob_store.specs.declared.watch.Note.TheVariants as note
use Rattle.ob_tables.specs.Content.{Content}
use Rattle.ob_twin.specs.Bodies.{Tagging}
use Rattle.ob_twin.specs.Keyed.{tagging}
use Rattle.ob_twin.specs.Opening.{HasOpen, is_closed_first}
use Rattle.ob_twin.specs.Orders.{prepare_notes, set_notes}
use Rattle.ob_twin.specs.Register.{IsOpen, gate_at, place_of}
use Rattle.ob_twin.specs.Stops.{IsPlaceLeft, IsRegisterLeft, SetStops, StopsShort}
use Rattle.ob_twin.specs.declared.gates.Gates.{Gates}
use Rattle.ob_twin.specs.declared.set_err.SetErr.{SetErr}
use Rattle.ob_twin.specs.declared.set_err.SetErr.TheVariants as set

-- ---- images

module _ (tag : Tagging) (n : ℕ) (a b c : Image) where
  -- from another image with the same gates
  place_from : (lacking : ℕ) → b (gate_at 5 (place_of n)) ≡ a (gate_at 5 (place_of n)) → IsPlaceLeft tag 5 n a lacking c → IsPlaceLeft tag 5 n b lacking c
  place_from zero same is = is
  place_from (suc zero) same is = is
  place_from (suc (suc zero)) same is = is
  place_from (suc (suc (suc zero))) same is = is
  place_from (suc (suc (suc (suc zero)))) same is = is
  place_from (suc (suc (suc (suc (suc zero))))) same is = λ opened. same ∙ is opened
  place_from (suc (suc (suc (suc (suc (suc lacking)))))) same is = is ∙ sym same

  pub left_from : (lacking : ℕ) → ((k : ℕ) → k < 9 → b k ≡ a k) → IsRegisterLeft tag 5 n a lacking c → IsRegisterLeft tag 5 n b lacking c
  left_from lacking same is = record {
    place = place_from lacking (same (gate_at 5 (n % 2)) (omega arith)) is.place;
    other = is.other ∙ sym (same (gate_at 5 ((n + 1) % 2)) (omega arith));
  }

-- no note of a set was shown, and the gates are the same
module _ (tag : Tagging) (n : ℕ) (a c : Image) (same : c (gate_at 5 (place_of n)) ≡ a (gate_at 5 (place_of n))) where
  kept_open : (lacking : ℕ) → 6 ≤ lacking → IsPlaceLeft tag 5 n a lacking c
  kept_open zero few = absurd (omega (arith, few))
  kept_open (suc zero) few = absurd (omega (arith, few))
  kept_open (suc (suc zero)) few = absurd (omega (arith, few))
  kept_open (suc (suc (suc zero))) few = absurd (omega (arith, few))
  kept_open (suc (suc (suc (suc zero)))) few = absurd (omega (arith, few))
  kept_open (suc (suc (suc (suc (suc zero))))) few = absurd (omega (arith, few))
  kept_open (suc (suc (suc (suc (suc (suc lacking)))))) few = same

  kept_shut : (lacking : ℕ) → 4 ≤ lacking → (IsOpen 5 a (place_of n) → ⊥) → IsPlaceLeft tag 5 n a lacking c
  kept_shut zero few shut = absurd (omega (arith, few))
  kept_shut (suc zero) few shut = absurd (omega (arith, few))
  kept_shut (suc (suc zero)) few shut = absurd (omega (arith, few))
  kept_shut (suc (suc (suc zero))) few shut = absurd (omega (arith, few))
  kept_shut (suc (suc (suc (suc zero)))) few shut = λ opened. shut (sym same ∙ opened)
  kept_shut (suc (suc (suc (suc (suc zero))))) few shut = λ opened. sym same ∙ opened
  kept_shut (suc (suc (suc (suc (suc (suc lacking)))))) few shut = same

  kept_place : (closes : Bool) (lacking : ℕ) → length (set_notes closes 5 n) ≤ lacking → ((IsTrue closes → ⊥) → IsOpen 5 a (place_of n) → ⊥) → IsPlaceLeft tag 5 n a lacking c
  kept_place true lacking few shut = kept_open lacking few
  kept_place false lacking few shut = kept_shut lacking few (shut (λ is. let wrong : false ≡ true = is in cc))

  pub kept_left : (closes : Bool) (lacking : ℕ) → length (set_notes closes 5 n) ≤ lacking → ((IsTrue closes → ⊥) → IsOpen 5 a (place_of n) → ⊥) → c (gate_at 5 (place_of (n + 1))) ≡ a (gate_at 5 (place_of (n + 1))) → IsRegisterLeft tag 5 n a lacking c
  kept_left closes lacking few shut other = record { place = kept_place closes lacking few shut; other = other }

-- ---- before the set

-- only reads were made
pub settled_on : (old mid : Disk) → Passes Same old mid → Keeps old mid → old.tells → IsSynced old → IsSynced mid
settled_on old mid passes keeps tells settled = λ c left k. let back = passes.now c left in ap (λ (i : Image). i k) back.2 ∙ settled back.0 back.1 k ∙ sym (keeps.cells tells k)

pub read_left : (keys : Keys) (closes : Bool) (n lacking : ℕ) (old mid : Disk) → Passes Same old mid → length (set_notes closes 5 n) ≤ lacking → (old.tells → (IsTrue closes → ⊥) → IsOpen 5 old.cells (place_of n) → ⊥) → (c : Image) → mid.may_leave c
    → IsEpochLeft keys closes n old lacking c
read_left keys closes n lacking old mid passes few shut c left = λ tells settled opened.
    let back = passes.now c left in
    let same : (k : ℕ) → c k ≡ old.cells k = λ k. ap (λ (i : Image). i k) back.2 ∙ settled back.0 back.1 k in
    kept_left (tagging keys) n old.cells c (same (gate_at 5 (n % 2))) closes lacking few (shut tells) (same (gate_at 5 ((n + 1) % 2)))

-- a row that was cut short shows no more notes than it has
shown_few : (steps made shown : List Note) → IsCut steps made shown → length shown ≤ length steps
shown_few steps made shown cut =
    let long : length made ≤ length steps = (let is = ap length cut.made_are ∙ length-take cut.count steps in omega (arith, is)) in
    ⊎_elim (λ (same : shown ≡ made). (let is = ap length same in omega (arith, is, long)))
    (λ (more : made ≡ shown ++ note.Sync ∷ []). (let is = ap length more ∙ length-append shown (note.Sync ∷ []) in omega (arith, is, long)))
    cut.shown_are

-- the writes were refused, and no register is among them
pub written_stops : (keys : Keys) (writes : List Note) (closes : Bool) (n : ℕ) (old mid : Disk) (k l : Trace) → TellsFirst writes old.seen mid.seen k l → Passes SameFirst old mid → (old.tells → (IsTrue closes → ⊥) → IsOpen 5 old.cells (place_of n) → ⊥)
    → StopsShort (writes ++ set_notes closes 5 n) (writes ++ prepare_notes closes 5 n) (IsEpochLeft keys closes n old) old mid k l
written_stops keys writes closes n old mid k l first passes shut = record {
  first = record { made = first.made; shown = first.shown; cut = cut_more writes (prepare_notes closes 5 n) first.made first.shown first.cut; tells = first.tells };
  left = λ c left tells settled opened.
      let back = passes.now c left in
      let same : (j : ℕ) → j < 9 → c j ≡ old.cells j = λ j lt. back.2 j lt ∙ settled back.0 back.1 j in
      let few = shown_few writes first.made first.shown first.cut in
      let all = length-append writes (set_notes closes 5 n) in
      kept_left (tagging keys) n old.cells c (same (gate_at 5 (n % 2)) (omega arith)) closes (length (writes ++ set_notes closes 5 n) - length first.shown) (omega (arith, few, all)) (shut tells) (same (gate_at 5 ((n + 1) % 2)) (omega arith));
}

-- ---- and within it

pub left_onto : (keys : Keys) (closes : Bool) (n lacking : ℕ) (old mid : Disk) → (old.tells → mid.tells) → (old.tells → IsSynced old → IsSynced mid) → (old.tells → (k : ℕ) → k < 9 → mid.cells k ≡ old.cells k) → (c : Image) → IsEpochLeft keys closes n mid lacking c
    → IsEpochLeft keys closes n old lacking c
left_onto keys closes n lacking old mid on durable same c is = λ tells settled opened.
    left_from (tagging keys) n mid.cells old.cells c lacking (λ k lt. sym (same tells k lt))
    (is (on tells) (durable tells settled) (λ closed. same tells (gate_at 5 (n % 2)) (omega arith) ∙ opened closed))

pub set_stops : (keys : Keys) (writes : List Note) (closes : Bool) (n : ℕ) (old mid new : Disk) (k l m : Trace) → Tells writes writes old.seen mid.seen k l → (old.tells → mid.tells) → (old.tells → IsSynced old → IsSynced mid)
    → (old.tells → (j : ℕ) → j < 9 → mid.cells j ≡ old.cells j) → (r : Result (Unit {0}) SetErr) → SetStops (tagging keys) closes 5 n mid new l m r → CloseStops keys writes closes n old new k m r
set_stops keys writes closes n old mid new k l m before on durable same (Ok done) stops = tt
set_stops keys writes closes n old mid new k l m before on durable same (Err (set.Unsure fault)) stops = λ c left. left_onto keys closes n 1 old mid on durable same c (stops c left)
set_stops keys writes closes n old mid new k l m before on durable same (Err (set.Before fault)) stops = record {
  first = record {
    made = writes ++ (stops.first).made;
    shown = writes ++ (stops.first).shown;
    cut = cut_behind writes (prepare_notes closes 5 n) (stops.first).made (stops.first).shown (stops.first).cut;
    tells = tells_then writes writes (stops.first).made (stops.first).shown old.seen mid.seen new.seen k l m before (stops.first).tells;
  };
  left = λ c left.
      let all = length-append writes (set_notes closes 5 n) in
      let shown = length-append writes (stops.first).shown in
      let many : length (set_notes closes 5 n) - length (stops.first).shown ≡ length (writes ++ set_notes closes 5 n) - length (writes ++ (stops.first).shown) = omega (arith, all, shown) in
      subst (λ lacking. IsEpochLeft keys closes n old lacking c) many (left_onto keys closes n (length (set_notes closes 5 n) - length (stops.first).shown) old mid on durable same c (stops.left c left));
}

-- ---- the schedule's end closes with the set

within : (b w g s t : List Note) → length t ≤ length (b ++ w ++ g ++ s ++ t)
within b w g s t = omega (arith, length-append (b ++ w ++ g ++ s) t)

pub set_within : (p : Params) (c : Content) (rs : List BatchRecord) (epoch : ℕ) (gates : Gates) → HasOpen gates.epoch
    → length (set_notes (is_closed_first gates.epoch (place_of (suc epoch))) 5 (suc epoch)) ≤ length (written_by_end p (public_of_kept p c rs epoch gates))
set_within p c rs epoch gates has =
    let q : Public = public_of_kept p c rs epoch gates in
    let e : ℕ = epoch + 1 in
    let one : suc epoch ≡ e = omega arith in
    let set : set_notes (is_closed_first gates.epoch (place_of (suc epoch))) 5 (suc epoch) ≡ set_twin p EpochTwin e (gates_open gates (gate_cell p EpochTwin e)) =
    epoch_set p gates (suc epoch) has ∙ ap (λ x. set_twin p EpochTwin x (gates_open gates (gate_cell p EpochTwin x))) one in
    let few = within (bucket_writes p (λ u. 1 - q.homes u) (filter (is_lifted_by_end p q) (by_falling_level (p.levels + 1)))) (writes_of (check_cells p (e % 2))) (writes_of (log_gates p ((e + 1) % 2))) (note.Sync ∷ []) (set_twin p EpochTwin e (gates_open gates (gate_cell p EpochTwin e))) in
    subst (λ (ns : List Note). length ns ≤ length (written_by_end p q)) (sym set) few

-- no more than the lifts were shown: all of the set lacks
pub lifts_lack : (p : Params) (c : Content) (rs : List BatchRecord) (epoch : ℕ) (gates : Gates) (f : Fills) → HasOpen gates.epoch → (shown notes : List Note) → length shown ≤ length notes → notes ≡ end_lifts p (public_of_kept p c rs epoch gates) f
    → length (set_notes (is_closed_first gates.epoch (place_of (suc epoch))) 5 (suc epoch)) ≤ length (end_notes p (public_of_kept p c rs epoch gates) f) - length shown
lifts_lack p c rs epoch gates f has shown notes few is =
    let q : Public = public_of_kept p c rs epoch gates in
    let set = set_within p c rs epoch gates has in
    let all = length-append (end_lifts p q f) (written_by_end p q) in
    let long = ap length is in
    omega (arith, set, all, long, few)

-- the same under other names
pub stops_as : (ring : Kept) (keys keys' : Keys) (n m : ℕ) (x y : Bool) (old new : Disk) (k l : Trace) (z : Result (Unit {0}) SetErr) → keys ≡ keys' → n ≡ m → x ≡ y → CloseStops keys (end_write_notes ring n) x n old new k l z → CloseStops keys' (end_write_notes ring m) y m old new k l z
stops_as ring keys keys' n m x y old new k l z same is closes stops =
    subst (λ (a : Keys). CloseStops a (end_write_notes ring m) y m old new k l z) same
    (subst (λ (w : Bool). CloseStops keys (end_write_notes ring m) w m old new k l z) closes (subst (λ i. CloseStops keys (end_write_notes ring i) x i old new k l z) is stops))
