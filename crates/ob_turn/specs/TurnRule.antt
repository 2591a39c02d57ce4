-- The rule of the turn, and what each atomic step tells.
use Rattle.std.specs.Prelude.{◌≡◌, ◌≢◌, ℕ, ◌+◌, ◌-◌, ◌^◌, ◌<◌, ◌≤◌, ◌⊎◌, Bool, true, false, List, [], ◌∷◌, ◌++◌, length, Some, None}
use Rattle.std.specs.List.{All}
use mathlib.Core.Option.{Option as Opt, none, some}
use mathlib.Core.List.{IsPrefix}
use lib.ListN.{get_elem?}
use Rattle.std.specs.declared.snapshot.Snapshot.{Snapshot}
use Rattle.atomic_table.specs.Table.{State, Me, Step}
use Rattle.ob_turn.specs.declared.turn.Entry.{Entry}
use Rattle.ob_turn.specs.declared.turn.View.{View}
use Rattle.ob_turn.specs.declared.turn.Stage.{Stage}
use Rattle.ob_turn.specs.declared.turn.Stage.TheVariants.{Idle, Ready, Waiting, Inside}
use Rattle.ob_turn.specs.declared.turn.Slot.{Slot}
use Rattle.ob_turn.specs.declared.turn.Slot.TheVariants.{Rests, Out, Noted, Leaves}
use Rattle.ob_turn.specs.declared.turn.Joined.{Joined}
use Rattle.ob_turn.specs.History.{entry, longer, entries_of, HasPart, LeadsByTurns, LeadsFromOpening}

-- the value that a slot has, if it has one
abbrev pub value_in : {T E : Type 0} → Slot T E → Opt T
value_in (Rests x) = some x
value_in Out = none
value_in (Noted e) = none
value_in (Leaves x e) = some x

-- whether a seat at this stage has a ticket, and whether it is about to draw one, as numbers to add up
abbrev pub queued : Stage → ℕ
queued Idle = 0
queued Ready = 0
queued (Waiting k) = 1
queued (Inside k) = 1

abbrev pub readied : Stage → ℕ
readied Idle = 0
readied Ready = 1
readied (Waiting k) = 0
readied (Inside k) = 0

-- the stage has this ticket
abbrev pub HasTicketAt : Stage → ℕ → Type 0
HasTicketAt Idle k = ⊥
HasTicketAt Ready k = ⊥
HasTicketAt (Waiting n) k = n ≡ k
HasTicketAt (Inside n) k = n ≡ k

-- the numbers of the views, added up
abbrev pub total : {V : Type 0} → (V → ℕ) → List V → ℕ
total f [] = 0
total f (v ∷ vs) = f v + total f vs

-- no two seats have one number
abbrev pub Unique : {V : Type 0} → (V → ℕ → Type 0) → List V → Type 0
Unique {V = V} R views = (i j k : ℕ) (v w : V) → get_elem? views i ≡ some v → get_elem? views j ≡ some w → R v k → R w k → i ≡ j

module _ {T E : Type 0} where
  abbrev pub HasTicket : View T E → ℕ → Type 0
  HasTicket v k = HasTicketAt v.stage k

  -- the seat is the caller k's
  abbrev pub HasName : View T E → ℕ → Type 0
  HasName v k = (0 < v.parts) × (v.by ≡ k)

  abbrev pub parts_of : View T E → ℕ
  parts_of v = v.parts

  abbrev pub queued_of : View T E → ℕ
  queued_of v = queued v.stage

  abbrev pub readied_of : View T E → ℕ
  readied_of v = readied v.stage

  abbrev pub staged : View T E → Stage → View T E
  staged v stage = record v { stage = stage }

  -- a ticket that waits isn't served yet; in its turn a seat has seen the whole history
  abbrev pub FitsStage : List (Entry E) → ℕ → View T E → Stage → Type 0
  FitsStage log ticket v Idle = Unit {0}
  FitsStage log ticket v Ready = 0 < v.parts
  FitsStage log ticket v (Waiting k) = (length log ≤ k) × (k < ticket) × (0 < v.parts)
  FitsStage log ticket v (Inside k) = (k ≡ length log) × (k < ticket) × (0 < v.parts) × (v.seen ≡ log)

  -- what a seat knew that was joined away is so, and its caller has no seat any more
  pub record IsJoinedAway (opening : T) (log : List (Entry E)) (names : ℕ) (views : List (View T E)) (gone : Joined T E) : Type 0 where
    pub opening_is : gone.opening ≡ Some opening
    pub prefix : IsPrefix gone.seen log
    pub named : gone.by < names
    pub own : entries_of gone.by log ≡ gone.mine
    pub no_seat : (n : ℕ) (u : View T E) → get_elem? views n ≡ some u → 0 < u.parts → u.by ≡ gone.by → ⊥

  -- what a seat knows is so
  pub record SeatFits (opening : T) (log : List (Entry E)) (ticket cutter names seats by : ℕ) (v : View T E) : Type 0 where
    pub opening_is : 0 < v.parts → v.opening ≡ Some opening
    pub prefix : IsPrefix v.seen log
    pub named : 0 < v.parts → (v.by < names) × (entries_of v.by log ≡ v.mine)
    pub cuts : v.cuts ≡ true → (by ≡ cutter) × (v.by + 1 ≡ names) × (0 < v.parts) × (v.by + v.parts ≡ seats)
    pub stage : FitsStage log ticket v v.stage

  module _ (steps : ℕ → T → E → T → Type 0) where
    -- the value is at home, and stands for the history, or the one seat whose turn it is has it
    abbrev pub Home : T → List (Entry E) → List (Opt (Slot T E)) → List (View T E) → Type 0
    Home opening log homes views =
        ((y : Slot T E) × (x : T) × (homes ≡ some y ∷ []) × (value_in y ≡ some x) × LeadsByTurns steps opening log x
        × ((by k : ℕ) (v : View T E) → get_elem? views by ≡ some v → v.stage ≢ Inside k))
        ⊎ ((homes ≡ none ∷ []) × ((by k : ℕ) × (v : View T E) × (get_elem? views by ≡ some v) × (v.stage ≡ Inside k)))

    -- There is one legal history, as long as tickets were served; served tickets and those that seats hold are the tickets drawn; and what each seat knows is so.
    pub record TurnKept (opening : T) (seats : ℕ) (s : State (Slot T E) (View T E)) : Type 0 where
      pub log : List (Entry E)
      pub ticket : ℕ
      pub cutter : ℕ
      pub names : ℕ
      pub some_seat : 1 ≤ seats
      pub few : seats ≤ 2 ^ 62
      pub words : s.words ≡ ticket ∷ length log ∷ []
      pub parts : total parts_of s.views ≡ seats
      pub queue : length log + total queued_of s.views ≡ ticket
      pub bound : ticket + total readied_of s.views ≤ 2 ^ 63 + seats
      pub each : (by : ℕ) (v : View T E) → get_elem? s.views by ≡ some v → SeatFits opening log ticket cutter names seats by v
      pub one_turn : Unique HasTicket s.views
      pub one_name : Unique HasName s.views
      pub settled : (by : ℕ) (v : View T E) → get_elem? s.views by ≡ some v → All (IsJoinedAway opening log names s.views) v.joined
      pub covered : names ≤ seats
      pub legal : (x : T) × LeadsByTurns steps opening log x
      pub unnamed : (by : ℕ) → names ≤ by → entries_of by log ≡ []
      pub home : Home opening log s.homes s.views

    -- the seat is in its turn, with the slot's value, which stands for all that it has seen: as many turns as its ticket says
    abbrev pub Entered : Me (Slot T E) (View T E) → ℕ → Me (Slot T E) (View T E) → Type 0
    Entered m k w =
        (y : Slot T E) × (x : T) × (log : List (Entry E))
        × (w ≡ (record m.0 { stage = Inside k; noted = []; seen = log }, (0, y) ∷ m.1))
        × (value_in y ≡ some x) × LeadsFromOpening steps m.0.opening log x × IsPrefix m.0.seen log × (entries_of m.0.by log ≡ m.0.mine) × All (HasPart log) m.0.joined × (k ≡ length log)

    -- a waiting seat enters exactly where its ticket is served
    abbrev pub Watches : Step (Slot T E) → Me (Slot T E) (View T E) → ℕ → Me (Slot T E) (View T E) → Type 0
    Watches st m found w = (k : ℕ) → m.0.stage ≡ Waiting k → (found ≢ k → w ≡ m) × (found ≡ k → Entered m k w)

  -- a seat may draw a ticket only below 2 ^ 63
  abbrev pub Arrives : Step (Slot T E) → Me (Slot T E) (View T E) → ℕ → Me (Slot T E) (View T E) → Type 0
  Arrives st m found w = (w.1 ≡ m.1) × (found < 2 ^ 63 → w.0 ≡ staged m.0 Ready) × (2 ^ 63 ≤ found → w.0 ≡ m.0)

  abbrev pub Draws : Step (Slot T E) → Me (Slot T E) (View T E) → ℕ → Me (Slot T E) (View T E) → Type 0
  Draws st m found w = w ≡ (staged m.0 (Waiting found), m.1)

  -- the call in the slot is the last that is noted
  abbrev pub noting : View T E → E → View T E
  noting v e = record v { noted = v.noted ++ e ∷ [] }

  abbrev pub NotesStep : Step (Slot T E) → Me (Slot T E) (View T E) → ℕ → Me (Slot T E) (View T E) → Type 0
  NotesStep st m found w = (e : Snapshot E) → m.1 ≡ (0, Noted e) ∷ [] → w ≡ (noting m.0 e.value, m.1)

  -- the turn's entry, all that it noted and its last call, stands at the end of all that was seen
  abbrev pub left : View T E → E → View T E
  left v e = record v {
    stage = Idle;
    noted = [];
    seen = v.seen ++ entry v.by (v.noted ++ e ∷ []) ∷ [];
    mine = v.mine ++ entry v.by (v.noted ++ e ∷ []) ∷ [];
  }

  abbrev pub GoesStep : Step (Slot T E) → Me (Slot T E) (View T E) → ℕ → Me (Slot T E) (View T E) → Type 0
  GoesStep st m found w = (x : T) (e : Snapshot E) → m.1 ≡ (0, Leaves x e) ∷ [] → (w ≡ (left m.0 e.value, [])) × (entries_of w.0.by w.0.seen ≡ w.0.mine)

  -- how the seat is cut off which the others are: the first is done, and the second goes on
  abbrev pub kept_back : View T E → View T E
  kept_back v = record v { parts = 1; cuts = false }

  abbrev pub handed_on : View T E → View T E
  handed_on v = record v { by = v.by + 1; parts = v.parts - 1; mine = []; joined = [] }

  -- the seat of a caller that has seen and done nothing
  abbrev pub fresh_view : T → ℕ → ℕ → Bool → View T E
  fresh_view x by parts cuts = record { opening = Some x; by = by; parts = parts; cuts = cuts; stage = Idle; noted = []; seen = []; mine = []; joined = [] }

  -- the first seat, which has all parts
  abbrev pub first_view : T → ℕ → View T E
  first_view x seats = fresh_view x 0 seats true

  abbrev pub joined_of : View T E → Joined T E
  joined_of w = record { opening = w.opening; by = w.by; seen = w.seen; mine = w.mine }

  -- a seat that takes in another, of which it then knows what that knew
  abbrev pub both_views : View T E → View T E → View T E
  both_views v w = record v {
    parts = v.parts + w.parts;
    cuts = false;
    seen = longer v.seen w.seen;
    joined = v.joined ++ (w.joined ++ joined_of w ∷ []);
  }

  abbrev pub spent_view : View T E
  spent_view = record { opening = None; by = 0; parts = 0; cuts = false; stage = Idle; noted = []; seen = []; mine = []; joined = [] }
