-- The passes of the tests' halls, from the opening to the close.
use Rattle.std.proofs.Common.{◌≡◌, ◌∙◌, ◌+◌, ◌<◌, ℕ, zero, suc, Bool, false, Result, Ok, Err, if◌then◌else◌, List, [], ◌∷◌, ◌++◌, length, length-append, Option, None, Some, remove, slice_index_or, refl, sym, ap, subst, arith, append-nil}
use Rattle.std.specs.Option.{is_some, unwrap_or}
use Rattle.std.specs.Prelude.{IfOk}
use Rattle.std.specs.Result.{result_ok}
use Rattle.std.proofs.lemmas.Option.{none-some}
use Rattle.std.specs.List.{All}
use Rattle.std.proofs.lemmas.List.Elements.{All-cons, All-head, All-push, All-weaker}
use Rattle.ob_base.specs.declared.fault.Fault.{Fault}
use Rattle.ob_desk.specs.Desk as desk
use Rattle.ob_desk.specs.Desk.{DeskState, Part, is_memory}
use Rattle.ob_turn.specs.declared.turn.Entry.{Entry}
use Rattle.ob_turn.specs.History.{entry, entries_of}
use Rattle.ob_turn.specs.TurnRule.{left}
use Rattle.ob_hall.specs.Opening.{ArePasses as Opened}
use Rattle.ob_hall.specs.Closing.{HasPass, AreAll, IsWholeHistory}
use Rattle.ob_hall.specs.Passes.{Steps, Hall, Pass, opening_of, entries_by, calls_in, raised_by, pass_place, IsPassOf, IsOutOfTurn, EntersTurn, LeavesTurn}
use Rattle.ob_hall.specs.Rounds.{Rounds, rounds_of, rounds_behind}
use Rattle.ob_hall.specs.Calling.{IsReady}
use Rattle.ob_hall.specs.Testing.{IsOpenedHall}
use Rattle.ob_hall.proofs.Gathering.{first_items, last_item}
use Rattle.ob_hall.proofs.Rounds.{history_moves}
use Rattle.ob_hall.proofs.Trying.{opened_is}
use Rattle.ob_hall_tests.specs.Halls.{IsNewDriver, IsFresh, LeavesOpen, MayStart, HasWorked, AreHeld, AreStarting, AreDone}

-- ---- the opening

-- what holds of what was made, where that went well
pub made_well : {T E : Type 0} (P : T → Type 0) (made : Result T E) (seen : Option T) (value : T) → IfOk made P → seen ≡ result_ok made → seen ≡ Some value → P value
made_well {T} {E} P (Ok x) seen value holds is some = subst P (ap (λ (o : Option T). unwrap_or o x) (sym is ∙ some)) holds
made_well P (Err e) seen value holds is some = absurd (none-some value (sym is ∙ some))

pub starting : (hall : Hall) (clients : List ℕ) (passes : List Pass) → Opened hall clients passes → (opening_of hall).setup.params.keys ≡ 64 → (rounds_of (opening_of hall)).has_closed ≡ false → AreStarting hall 0 passes
starting hall clients passes a keys none =
    let o : IsOpenedHall 64 hall a.driver a.others = opened_is 64 hall clients passes a.others a.driver a (sym (ap (λ (ps : List Pass). slice_index_or ps 0 a.driver) a.are)) (sym (ap (λ (ps : List Pass). remove ps 0) a.are)) keys none in
    let many = o.count in
    record {
      driver = a.driver;
      clients = a.others;
      are = a.are;
      its = record { own = o.own; idle = o.idle; place = o.place; raises = o.raises; none_told = o.none_told; unmade = o.unmade; none_closed = o.none_closed };
      theirs = λ k d lt. record { ready = o.ready k d lt; between = o.between k d lt; unsaid = o.unsaid k d lt; keys = o.keys_are };
      count = omega (arith, many);
    }

pub as_many : (hall : Hall) (clients : List ℕ) (passes : List Pass) → Opened hall clients passes → AreStarting hall 0 passes → length passes ≡ length clients + 1
as_many hall clients passes a s =
    let long = ap length s.are in
    let count = s.count in
    let callers = a.callers in
    omega (arith, long, count, callers)

-- of what an opening answers
module _ {V E : Type 0} (items : V → List Pass) (desk : DeskState) (clients : List ℕ) where
  pub all_starting : (made : Result (Hall × V) E) → desk.setup.params.keys ≡ 64 → (rounds_of desk).has_closed ≡ false → IfOk made (λ m. opening_of m.0 ≡ desk) → IfOk made (λ m. Opened m.0 clients (items m.1)) → IfOk made (λ m. AreStarting m.0 0 (items m.1))
  all_starting (Ok m) keys none same passes = starting m.0 clients (items m.1) passes (ap (λ (d : DeskState). d.setup.params.keys) same ∙ keys) (ap (λ (d : DeskState). (rounds_of d).has_closed) same ∙ none)
  all_starting (Err e) keys none same passes = passes

  pub all_as_many : (made : Result (Hall × V) E) → IfOk made (λ m. Opened m.0 clients (items m.1)) → IfOk made (λ m. AreStarting m.0 0 (items m.1)) → IfOk made (λ m. length (items m.1) ≡ length clients + 1)
  all_as_many (Ok m) passes starts = as_many m.0 clients (items m.1) passes starts
  all_as_many (Err e) passes starts = passes

-- ---- each caller's part

start_of : (hall : Hall) (driver : Pass) (clients : List Pass) → IsNewDriver hall driver → All (IsFresh hall) clients → (k : ℕ) (d : Pass) → k < length (driver ∷ clients) → MayStart hall k (slice_index_or (driver ∷ clients) k d)
start_of hall driver clients first fresh zero d lt = first
start_of hall driver clients first fresh (suc k) d lt = fresh k d (omega (arith, lt))

pub at_start : (hall : Hall) (passes : List Pass) → AreStarting hall 0 passes → (k : ℕ) (d : Pass) → k < length passes → MayStart hall k (slice_index_or passes k d)
at_start hall passes s k d = subst (λ (ps : List Pass). k < length ps → MayStart hall k (slice_index_or ps k d)) (sym s.are) (start_of hall s.driver s.clients s.its s.theirs k d)

pub all_done : (hall : Hall) (old new : List Pass) → AreStarting hall 0 old → length new ≡ length old → ((k : ℕ) (d : Pass) → k < length new → HasWorked hall k (slice_index_or new k d)) → AreDone hall 0 new
all_done hall old [] s long each = let some = ap length s.are in absurd (omega (arith, long, some))
all_done hall old (p ∷ ps) s long each = let some = ap length s.are in let count = s.count in record {
  driver = p;
  clients = ps;
  are = refl;
  its = each 0 p (omega arith);
  theirs = λ k d lt. each (suc k) d (omega (arith, lt));
  count = omega (arith, long, some, count);
}

pub is_first : (hall : Hall) (k : ℕ) (pass : Pass) → k ≡ 0 → MayStart hall k pass → IsNewDriver hall pass
is_first hall k pass none start = subst (λ (n : ℕ). MayStart hall n pass) none start

pub is_fresh : (hall : Hall) (k : ℕ) (pass : Pass) → 0 < k → MayStart hall k pass → IsFresh hall pass
is_fresh hall zero pass some start = absurd (omega (arith, some))
is_fresh hall (suc at) pass some start = start

pub driver_done : (hall : Hall) (k : ℕ) (pass : Pass) → k ≡ 0 → LeavesOpen hall pass → HasWorked hall k pass
driver_done hall k pass none is = subst (λ (n : ℕ). HasWorked hall n pass) (sym none) is

pub client_done : (hall : Hall) (k : ℕ) (pass : Pass) → 0 < k → IsReady hall pass → HasWorked hall k pass
client_done hall zero pass some ready = absurd (omega (arith, some))
client_done hall (suc at) pass some ready = ready

-- ---- the driver's turn

-- it called nothing
pub untouched : (hall : Hall) (pass : Pass) → IsNewDriver hall pass → LeavesOpen hall pass
untouched hall pass f = record {
  own = f.own;
  idle = f.idle;
  place = f.place;
  none_closed = ap (λ (es : List (Entry Steps)). (rounds_behind (opening_of hall).setup.params.batches (rounds_of (opening_of hall)) (calls_in es)).has_closed) f.unmade ∙ f.none_closed;
}

-- its first turn had these calls
pub turned : (hall : Hall) (before mid after : Pass) (d : DeskState) (calls : Steps) → pass_place before ≡ 0 → entries_by before ≡ [] → EntersTurn hall before mid d → LeavesTurn mid after calls → IsPassOf hall after → IsOutOfTurn after
    → (rounds_behind (opening_of hall).setup.params.batches (rounds_of (opening_of hall)) calls).has_closed ≡ false → LeavesOpen hall after
turned hall before mid after d calls place unmade e l own idle none =
    let view : mid.seat.me.0 ≡ record before.seat.me.0 { stage = mid.seat.me.0.stage; noted = []; seen = mid.seat.me.0.seen } = e.enters.knows in
    let after_is : after.seat.me.0 ≡ left (record before.seat.me.0 { stage = mid.seat.me.0.stage; noted = []; seen = mid.seat.me.0.seen }) calls = (λ i. (l.ends.knows i).0) ∙ (λ i. left (view i) calls) in
    let one : Entry Steps = entry (pass_place before) (calls ∷ []) in
    let made : entries_by after ≡ one ∷ [] = (λ i. (after_is i).mine) ∙ ap (λ (es : List (Entry Steps)). es ++ one ∷ []) unmade in
    let calls_are : calls_in (entries_by after) ≡ calls = ap calls_in made ∙ (append-nil (calls ++ []) ∙ append-nil calls) in
    record {
      own = own;
      idle = idle;
      place = (λ i. (after_is i).by) ∙ place;
      none_closed = ap (λ (cs : Steps). (rounds_behind (opening_of hall).setup.params.batches (rounds_of (opening_of hall)) cs).has_closed) calls_are ∙ none;
    }

-- in which it called nothing
pub held : (hall : Hall) (before mid after : Pass) (d : DeskState) (calls : Steps) → pass_place before ≡ 0 → entries_by before ≡ [] → EntersTurn hall before mid d → LeavesTurn mid after calls → IsPassOf hall after → IsOutOfTurn after → calls ≡ []
    → (rounds_of (opening_of hall)).has_closed ≡ false → LeavesOpen hall after
held hall before mid after d calls place unmade e l own idle nothing none =
    turned hall before mid after d calls place unmade e l own idle (ap (λ (cs : Steps). (rounds_behind (opening_of hall).setup.params.batches (rounds_of (opening_of hall)) cs).has_closed) nothing ∙ none)

-- in which it stopped the desk, not for want of memory
pub stopped : (hall : Hall) (before mid after : Pass) (d : DeskState) (calls : Steps) (f : Fault) → pass_place before ≡ 0 → entries_by before ≡ [] → EntersTurn hall before mid d → LeavesTurn mid after calls → IsPassOf hall after → IsOutOfTurn after
    → calls ≡ (desk.Stop f, desk.Done) ∷ [] → is_memory f ≡ false → LeavesOpen hall after
stopped hall before mid after d calls f place unmade e l own idle stop other =
    let opened : Rounds = rounds_of (opening_of hall) in
    turned hall before mid after d calls place unmade e l own idle
    (ap (λ (cs : Steps). (rounds_behind (opening_of hall).setup.params.batches opened cs).has_closed) stop ∙ ap (λ (b : Bool). (if b then opened else record opened { has_closed = false; due = None }).has_closed) other)

-- ---- passes that are taken out, and put back

module _ (hall : Hall) (D C : Pass → Type 0) where
  pub taken : (away : ℕ) (passes less : List Pass) (pass : Pass) → AreHeld hall D C away passes → passes ≡ less ++ pass ∷ [] → 1 < length passes → AreHeld hall D C (suc away) less × C pass
  taken away passes [] pass a is many = let long = ap length is in absurd (omega (arith, long, many))
  taken away passes (p ∷ less) pass a is many =
      let same : p ∷ (less ++ pass ∷ []) ≡ a.driver ∷ a.clients = sym is ∙ a.are in
      let heads : p ≡ a.driver = ap (λ (ps : List Pass). slice_index_or ps 0 p) same in
      let tails : a.clients ≡ less ++ pass ∷ [] = sym (ap (λ (ps : List Pass). remove ps 0) same) in
      let long = ap length tails ∙ length-append less (pass ∷ []) in
      let count = a.count in
      (record { driver = a.driver; clients = less; are = ap (λ q. q ∷ less) heads; its = a.its; theirs = first_items C a.clients less pass tails a.theirs; count = omega (arith, long, count) }, last_item C a.clients less pass tails a.theirs)

  pub given : (away : ℕ) (passes more : List Pass) (pass : Pass) → AreHeld hall D C (suc away) passes → more ≡ passes ++ pass ∷ [] → C pass → AreHeld hall D C away more
  given away passes more pass a is its =
      let long = length-append a.clients (pass ∷ []) in
      let count = a.count in
      record { driver = a.driver; clients = a.clients ++ pass ∷ []; are = is ∙ ap (λ (ps : List Pass). ps ++ pass ∷ []) a.are; its = a.its; theirs = All-push C a.clients pass a.theirs its; count = omega (arith, long, count) }

-- those that were left made no calls
pub left_done : (hall : Hall) (away : ℕ) (passes : List Pass) → AreStarting hall away passes → AreDone hall away passes
left_done hall away passes a = record { driver = a.driver; clients = a.clients; are = a.are; its = untouched hall a.driver a.its; theirs = All-weaker (IsFresh hall) (IsReady hall) (λ p fresh. fresh.ready) a.clients a.theirs; count = a.count }

-- ---- the close

all_of : (P : Pass → Type 0) (hall : Hall) (passes : List Pass) → ((p : Pass) → LeavesOpen hall p → P p) → ((p : Pass) → IsReady hall p → P p) → AreDone hall 0 passes → All P passes
all_of P hall passes first others a = subst (All P) (sym a.are) (All-cons P a.driver a.clients (first a.driver a.its) (All-weaker (λ p. IsReady hall p) P others a.clients a.theirs))

pub all_own : (hall : Hall) (passes : List Pass) → AreDone hall 0 passes → All (λ p. IsPassOf hall p) passes
all_own hall passes a = all_of (λ p. IsPassOf hall p) hall passes (λ p o. o.own) (λ p r. r.own) a

pub all_idle : (hall : Hall) (passes : List Pass) → AreDone hall 0 passes → All (λ p. IsOutOfTurn p) passes
all_idle hall passes a = all_of (λ p. IsOutOfTurn p) hall passes (λ p o. o.idle) (λ p r. r.idle) a

pub are_all : (hall : Hall) (passes : List Pass) → AreDone hall 0 passes → AreAll hall passes
are_all hall passes a = let long = ap length a.are in let count = a.count in record { some_pass = omega (arith, long); count = omega (arith, long, count) }

none_there : (closed : Option Part) → is_some closed ≡ false → closed ≡ None
none_there None is = refl
none_there (Some part) is = absurd (cc is)

pub none_closed : (hall : Hall) (passes : List Pass) (d : DeskState) → IsWholeHistory hall passes d → AreDone hall 0 passes → d.closed ≡ None
none_closed hall passes d w a =
    let its : HasPass w.log (raised_by w.driver) a.driver = All-head (HasPass w.log (raised_by w.driver)) a.driver a.clients (subst (All (HasPass w.log (raised_by w.driver))) a.are w.passes_are) in
    let made : entries_of 0 w.log ≡ entries_by a.driver = ap (λ (n : ℕ). entries_of n w.log) (sym a.its.place) ∙ its.own in
    let batches : ℕ = (opening_of hall).setup.params.batches in
    let same : rounds_of d ≡ rounds_behind batches (rounds_of (opening_of hall)) (calls_in (entries_by a.driver)) =
    history_moves batches (opening_of hall) w.log d refl w.legal ∙ ap (λ (es : List (Entry Steps)). rounds_behind batches (rounds_of (opening_of hall)) (calls_in es)) made in
    none_there d.closed (ap (λ (r : Rounds). r.has_closed) same ∙ a.its.none_closed)
