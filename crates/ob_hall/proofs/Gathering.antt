-- The passes of a hall that is closed, taken in one after another.
use Rattle.std.proofs.Common.{◌≡◌, ℕ, ◌+◌, Bool, true, false, ◌||◌, List, [], ◌∷◌, ◌++◌, length, Some, refl, sym, ap, subst, ◌∙◌, arith, append_assoc}
use Rattle.std.specs.List.{All, Contains}
use Rattle.std.proofs.lemmas.List.Elements.{All-nil, All-cons, All-head, All-weaker, Contains-push, Contains-append_left, Contains-append_right}
use mathlib.Core.List.{IsPrefix}
use Rattle.ob_desk.specs.Desk.{DeskState}
use Rattle.atomic_table.specs.declared.shared.Seat.{Seat}
use Rattle.ob_turn.specs.declared.bell.Heard.{Heard}
use Rattle.ob_turn.specs.declared.turn.Entry.{Entry}
use Rattle.ob_turn.specs.declared.turn.Joined.{Joined}
use Rattle.ob_turn.specs.declared.turn.View.{View}
use Rattle.ob_turn.specs.BellCalls as bells
use Rattle.ob_turn.specs.BellHistory.{told_either, both_heard}
use Rattle.ob_turn.specs.History.{longer, LeadsFromOpening, TellsOf, TellsSeats}
use Rattle.ob_turn.specs.TurnCalls as turns
use Rattle.ob_turn.specs.TurnCalls.{TurnSeat, HaveAll, Whole}
use Rattle.ob_turn.specs.TurnRule.{both_views, joined_of}
use Rattle.ob_turn.proofs.TurnClosing.{all_left, all_right, last_of}
use Rattle.ob_turn.proofs.Prefixes.{prefix_self, prefix_trans, longer-left}
use Rattle.ob_hall.specs.Turns.{IsTurn}
use Rattle.ob_hall.specs.Passes.{Steps, Hall, Pass, opening_of, raised_by, may_raise, callers_of, IsPassOf, IsOutOfTurn}
use Rattle.ob_hall.specs.Closing.{HasPass, IsWholeHistory}

abbrev pub V : Type 0
V = View DeskState Steps

abbrev pub TSeat : Type 0
TSeat = TurnSeat DeskState Steps

abbrev pub Ear : Type 0
Ear = Seat (Unit {0}) Heard

abbrev pub TellsView : List (Entry Steps) → DeskState → V → Type 0
TellsView log x w = TellsOf IsTurn log x w.opening w.by w.seen w.mine

abbrev TellsJoined : List (Entry Steps) → DeskState → Joined DeskState Steps → Type 0
TellsJoined log x j = TellsOf IsTurn log x j.opening j.by j.seen j.mine

-- whatever history the first seat tells of has what the second knows
abbrev pub Carries : V → V → Type 0
Carries v w = (log : List (Entry Steps)) (x : DeskState) → TellsSeats IsTurn log x v → TellsView log x w

carries_left : (v w u : V) → Carries v u → Carries (both_views v w) u
carries_left v w u c log x t = c log x (record {
  seat = record { legal = t.seat.legal; prefix = prefix_trans v.seen (longer v.seen w.seen) log (longer-left v.seen w.seen) t.seat.prefix; own = t.seat.own };
  joined = all_left (TellsJoined log x) v.joined (w.joined ++ joined_of w ∷ []) t.joined;
})

carries_right : (v w : V) → Carries (both_views v w) w
carries_right v w log x t = last_of (TellsJoined log x) w.joined (joined_of w) (all_right (TellsJoined log x) v.joined (w.joined ++ joined_of w ∷ []) t.joined)

-- any list of which an ear was told beginnings begins with these numbers
abbrev pub Hears : Heard → List ℕ → Type 0
Hears v told = (log : List ℕ) → All (λ (l : List ℕ). IsPrefix l log) v.joined → IsPrefix v.seen log → IsPrefix told log

abbrev Begins : List ℕ → List ℕ → Type 0
Begins log told = IsPrefix told log

hears_both : (v w : Heard) (log : List ℕ) → All (Begins log) (both_heard v w).joined → All (Begins log) v.joined × Begins log v.seen × Begins log w.seen
hears_both v w log all =
    let last : All (Begins log) (w.joined ++ v.seen ∷ w.seen ∷ []) = all_right (Begins log) v.joined (w.joined ++ v.seen ∷ w.seen ∷ []) all in
    let two : All (Begins log) (v.seen ∷ w.seen ∷ []) = all_right (Begins log) w.joined (v.seen ∷ w.seen ∷ []) last in
    (all_left (Begins log) v.joined (w.joined ++ v.seen ∷ w.seen ∷ []) all, All-head (Begins log) v.seen (w.seen ∷ []) two, last_of (Begins log) (v.seen ∷ []) w.seen two)

hears_left : (v w : Heard) (told : List ℕ) → Hears v told → Hears (both_heard v w) told
hears_left v w told h log all _ = let b = hears_both v w log all in h log b.0 b.1

hears_right : (v w : Heard) → Hears (both_heard v w) w.seen
hears_right v w log all _ = (hears_both v w log all).2

-- one of these passes raises, and was told just these numbers
pub record HasDriver (told : List ℕ) (passes : List Pass) : Type 0 where
  pub driver : Pass
  pub is_one : Contains passes driver
  pub raises : may_raise driver ≡ true
  pub same : told ≡ raised_by driver

its_driver : (p : Pass) → may_raise p ≡ true → HasDriver (raised_by p) (p ∷ [])
its_driver p is = record { driver = p; is_one = Contains-push [] p; raises = is; same = refl }

-- an ear that raises as it is told took in a pass's
more_driver : (told : List ℕ) (p : Pass) (taken : List Pass) (a b : Bool) → may_raise p ≡ b → (a ≡ true → HasDriver told taken) → (a || b) ≡ true → HasDriver (told_either a b told (raised_by p)) (p ∷ taken)
more_driver told p taken true b _ had _ = let d = had refl in record { driver = d.driver; is_one = Contains-append_right (p ∷ []) taken d.driver d.is_one; raises = d.raises; same = d.same }
more_driver told p taken false true is _ _ = record { driver = p; is_one = Contains-append_left (p ∷ []) taken p (Contains-push [] p); raises = is; same = refl }
more_driver told p taken false false _ _ e = absurd (cc e)

-- what the seat and the ear tell for a pass
pub record TellsFor (v : V) (e : Heard) (pass : Pass) : Type 0 where
  pub carries : Carries v pass.seat.me.0
  pub hears : Hears e (raised_by pass)

-- Some passes were taken in, of all that there are, and the others stay.
pub record IsClosing (hall : Hall) (all items : List Pass) (seat : TSeat) (ear : Ear) : Type 0 where
  pub taken : List Pass
  pub split : all ≡ items ++ taken
  pub told : All (TellsFor seat.me.0 ear.me.0) taken
  pub seat_of : turns.IsTurnSeat hall.turn seat
  pub ear_of : bells.IsBellSeat hall.bell ear
  pub as_many : bells.seats_of hall.bell ≡ callers_of hall
  pub ear_parts : ear.me.0.parts ≡ length taken
  pub driver : ear.me.0.raises ≡ true → HasDriver ear.me.0.seen taken
  pub idle : turns.IsIdle seat
  pub opening : seat.me.0.opening ≡ Some (opening_of hall)
  pub parts : seat.me.0.parts ≡ length taken
  pub own : All (IsPassOf hall) items
  pub out : All IsOutOfTurn items

pub last_item : {A : Type 0} (P : A → Type 0) (items less : List A) (x : A) → items ≡ less ++ x ∷ [] → All P items → P x
last_item P items less x is all = last_of P less x (subst (All P) is all)

pub first_items : {A : Type 0} (P : A → Type 0) (items less : List A) (x : A) → items ≡ less ++ x ∷ [] → All P items → All P less
first_items P items less x is all = all_left P less (x ∷ []) (subst (All P) is all)

pub begins : (hall : Hall) (all less : List Pass) (p : Pass) → all ≡ less ++ p ∷ [] → All (IsPassOf hall) all → All IsOutOfTurn all → IsClosing hall all less p.seat p.ear
begins hall all less p is own out =
    let its = last_item (IsPassOf hall) all less p is own in record {
      taken = p ∷ [];
      split = is;
      told = All-cons (TellsFor p.seat.me.0 p.ear.me.0) p [] (record { carries = λ log x t. t.seat; hears = λ log joined prefix. prefix }) (All-nil (TellsFor p.seat.me.0 p.ear.me.0));
      seat_of = its.seat;
      ear_of = its.ear.bell;
      as_many = its.ear.as_many;
      ear_parts = its.ear.one_part;
      driver = its_driver p;
      idle = last_item IsOutOfTurn all less p is out;
      opening = its.opening;
      parts = its.one_part;
      own = first_items (IsPassOf hall) all less p is own;
      out = first_items IsOutOfTurn all less p is out;
    }

pub goes_on : (hall : Hall) (all items less : List Pass) (p : Pass) (seat seat' : TSeat) (ear ear' : Ear) → IsClosing hall all items seat ear → items ≡ less ++ p ∷ [] → turns.Joins seat p.seat seat' → bells.Joins ear p.ear ear' → IsClosing hall all less seat' ear'
goes_on hall all items less p seat seat' ear ear' c is j h =
    let its = last_item (IsPassOf hall) items less p is c.own in
    let both : seat'.me.0 ≡ both_views seat.me.0 p.seat.me.0 = λ i. (j.knows i).0 in
    let parts : seat'.me.0.parts ≡ seat.me.0.parts + p.seat.me.0.parts = λ i. (both i).parts in
    let one : p.seat.me.0.parts ≡ 1 = its.one_part in
    let some_part = c.idle.some_part in
    let more : List Pass = p ∷ c.taken in
    record {
      taken = more;
      split = c.split ∙ (ap (λ (l : List Pass). l ++ c.taken) is ∙ append_assoc less (p ∷ []) c.taken);
      told = subst (λ (e : Heard). All (TellsFor seat'.me.0 e) more) (sym h.both) (subst (λ (v : V). All (TellsFor v (both_heard ear.me.0 p.ear.me.0)) more) (sym both)
          (All-cons (TellsFor (both_views seat.me.0 p.seat.me.0) (both_heard ear.me.0 p.ear.me.0)) p c.taken
          (record { carries = carries_right seat.me.0 p.seat.me.0; hears = hears_right ear.me.0 p.ear.me.0 })
          (All-weaker (TellsFor seat.me.0 ear.me.0) (TellsFor (both_views seat.me.0 p.seat.me.0) (both_heard ear.me.0 p.ear.me.0))
          (λ q t. record { carries = carries_left seat.me.0 p.seat.me.0 q.seat.me.0 t.carries; hears = hears_left ear.me.0 p.ear.me.0 (raised_by q) t.hears }) c.taken c.told)));
      seat_of = j.same.table ∙ c.seat_of;
      ear_of = record { table = h.same.table ∙ c.ear_of.table; empty = h.same.empty ∙ c.ear_of.empty };
      as_many = c.as_many;
      ear_parts = let sum = c.ear_parts in let its_one = its.ear.one_part in let ears : ear'.me.0.parts ≡ ear.me.0.parts + p.ear.me.0.parts = λ i. (h.both i).parts in omega (arith, sum, its_one, ears);
      driver = subst (λ (e : Heard). e.raises ≡ true → HasDriver e.seen more) (sym h.both) (more_driver ear.me.0.seen p c.taken ear.me.0.raises (may_raise p) refl c.driver);
      idle = record { stage = (λ i. (both i).stage) ∙ c.idle.stage; some_part = omega (arith, parts, some_part); empty = λ i. (j.knows i).1 };
      opening = (λ i. (both i).opening) ∙ c.opening;
      parts = let sum = c.parts in omega (arith, parts, one, sum);
      own = first_items (IsPassOf hall) items less p is c.own;
      out = first_items IsOutOfTurn items less p is c.out;
    }

all_taken : (hall : Hall) (all items : List Pass) (seat : TSeat) (ear : Ear) (c : IsClosing hall all items seat ear) → items ≡ [] → all ≡ c.taken
all_taken hall all items seat ear c none = c.split ∙ ap (λ (l : List Pass). l ++ c.taken) none

-- The one seat has all parts.
pub have_all : (hall : Hall) (all items : List Pass) (seat : TSeat) (ear : Ear) → IsClosing hall all items seat ear → items ≡ [] → length all ≡ callers_of hall → HaveAll hall.turn (seat ∷ [])
have_all hall all items seat ear c none count =
    let same : length all ≡ length c.taken = ap (λ (l : List Pass). length l) (all_taken hall all items seat ear c none) in
    let parts = c.parts in
    let sum : seat.me.0.parts ≡ callers_of hall = parts ∙ (sym same ∙ count) in
    record { some_seat = omega arith; parts = omega (arith, sum) }

-- The one ear has all parts.
pub has_ears : (hall : Hall) (all items : List Pass) (seat : TSeat) (ear : Ear) → IsClosing hall all items seat ear → items ≡ [] → length all ≡ callers_of hall → ear.me.0.parts ≡ bells.seats_of hall.bell
has_ears hall all items seat ear c none count =
    let same : length all ≡ length c.taken = ap (λ (l : List Pass). length l) (all_taken hall all items seat ear c none) in
    c.ear_parts ∙ (sym same ∙ (count ∙ sym c.as_many))

-- At the end it tells for all.
pub ends : (hall : Hall) (all items : List Pass) (seat : TSeat) (ear : Ear) (number : ℕ) (d : DeskState) → IsClosing hall all items seat ear → items ≡ [] → bells.HasAllParts ear number → Whole IsTurn hall.turn (seat ∷ []) d → IsWholeHistory hall all d
ends hall all items seat ear number d c none r w =
    let told : TellsSeats IsTurn w.log d seat.me.0 = All-head (λ (s : TSeat). TellsSeats IsTurn w.log d s.me.0) seat [] w.told in
    let its = c.driver r.raises in
    let same : all ≡ c.taken = all_taken hall all items seat ear c none in
    let raised : List ℕ = raised_by its.driver in record {
      log = w.log;
      legal = subst (λ (o : _). LeadsFromOpening IsTurn o w.log d) c.opening told.seat.legal;
      driver = its.driver;
      is_one = subst (λ (l : List Pass). Contains l its.driver) (sym same) its.is_one;
      raises = its.raises;
      passes_are = subst (All (HasPass w.log raised)) (sym same)
          (All-weaker (TellsFor seat.me.0 ear.me.0) (HasPass w.log raised)
          (λ p t.
          let tells = t.carries w.log d told in record {
            seen = tells.prefix;
            own = tells.own;
            told = subst (λ (log : List ℕ). IsPrefix (raised_by p) log) its.same (t.hears ear.me.0.seen r.joined (prefix_self ear.me.0.seen));
          }) c.taken c.told);
      no_others = w.no_others;
    }
