-- Where the driver's turns stand in the one history.
use Rattle.std.proofs.Common.{◌≡◌, ◌∙◌, ℕ, zero, suc, List, [], ◌∷◌, ◌++◌, length, Some, refl, sym, ap, subst, append_assoc, arith}
use Rattle.std.specs.List.{slice_get}
use Rattle.std.proofs.lemmas.Option.{none-some}
use mathlib.Core.List.{IsPrefix}
use Rattle.ob_desk.specs.Desk.{DeskState}
use Rattle.ob_turn.specs.declared.turn.Entry.{Entry}
use Rattle.ob_turn.specs.History.{entry}
use Rattle.ob_turn.proofs.Prefixes.{prefix_self, prefix_trans}
use Rattle.ob_hall.specs.Passes.{Steps, Hall, Pass, pass_place, history_of, entries_by, EntersTurn, NotesTurn, LeavesTurn, IsTurnBehind}
use Rattle.ob_driver.specs.Turning.{NotesMore}
use Rattle.ob_driver.specs.Places.{StandIn, MakesEntries, IsTurnAt, EndsItsTurn, MakesFromItsTurn}

module _ {A : Type 0} where
  get_at : (xs : List A) (e : A) (ys : List A) → slice_get (xs ++ e ∷ ys) (length xs) ≡ Some e
  get_at [] e ys = refl
  get_at (x ∷ xs) e ys = get_at xs e ys

  get_longer : (xs ys : List A) (at : ℕ) (e : A) → slice_get xs at ≡ Some e → slice_get (xs ++ ys) at ≡ Some e
  get_longer [] ys at e is = absurd (none-some e is)
  get_longer (x ∷ xs) ys zero e is = is
  get_longer (x ∷ xs) ys (suc at) e is = get_longer xs ys at e is

-- ---- entries at places of a history

-- where the history goes on they stand as they stood
pub stand_longer : (log more : List (Entry Steps)) (n : ℕ) (entries : List (Entry Steps)) (m : ℕ) → IsPrefix log more → StandIn log n entries m → StandIn more n entries m
stand_longer log more n [] m p stand = stand
stand_longer log more n (e ∷ entries) m p (at, le, is, rest) = (at, le, subst (λ (l : List (Entry Steps)). slice_get l at ≡ Some e) p.1 (get_longer log p.0 at e is), stand_longer log more (suc at) entries m p rest)

stand_append : (log : List (Entry Steps)) (n k m : ℕ) (entries more : List (Entry Steps)) → StandIn log n entries k → StandIn log k more m → StandIn log n (entries ++ more) m
stand_append log n k m [] more first rest = subst (λ (x : ℕ). StandIn log x more m) (sym first) rest
stand_append log n k m (e ∷ entries) more (at, le, is, first) rest = (at, le, is, stand_append log (suc at) k m entries more first rest)

-- ---- a turn that ends

pub ends_left : (now after : Pass) (calls : Steps) → LeavesTurn now after calls → EndsItsTurn now after
ends_left now after calls l = record {
  turn = entry (pass_place now) (now.seat.me.0.noted ++ calls ∷ []);
  made = λ i. (l.ends.knows i).0.mine;
  seen = λ i. (l.ends.knows i).0.seen;
}

-- what was noted before, and a number that was raised, change no history
ends_from : (before now after : Pass) → entries_by now ≡ entries_by before → history_of now ≡ history_of before → EndsItsTurn now after → EndsItsTurn before after
ends_from before now after made seen e = record {
  turn = e.turn;
  made = e.made ∙ ap (λ (es : List (Entry Steps)). es ++ e.turn ∷ []) made;
  seen = e.seen ∙ ap (λ (es : List (Entry Steps)). es ++ e.turn ∷ []) seen;
}

pub ends_notes : (before now after : Pass) (calls : Steps) → NotesMore before now calls → EndsItsTurn now after → EndsItsTurn before after
ends_notes before now after calls n e = ends_from before now after n.made n.seen e

-- ---- entries that a pass made

-- one turn's
pub goes_on_ended : (now after : Pass) (count : ℕ) → IsTurnAt now count → EndsItsTurn now after → MakesFromItsTurn now count after count
goes_on_ended now after count at e = λ told lt. record {
  goes_on = (e.turn ∷ [], sym e.seen);
  entries = e.turn ∷ [];
  made = e.made;
  stand = (
    length (history_of now),
    omega (arith, lt, at),
    subst (λ (l : List (Entry Steps)). slice_get l (length (history_of now)) ≡ Some e.turn) (sym e.seen) (get_at (history_of now) e.turn []),
    at,
  );
}

-- by a pass that has entered, and noted calls, in place of the one that was at rest
pub made_from : (before now after : Pass) (n m : ℕ) → entries_by now ≡ entries_by before → IsPrefix (history_of before) (history_of now) → MakesEntries now n after m → MakesEntries before n after m
made_from before now after n m made p x = record {
  goes_on = prefix_trans (history_of before) (history_of now) (history_of after) p x.goes_on;
  entries = x.entries;
  made = x.made ∙ ap (λ (es : List (Entry Steps)). es ++ x.entries) made;
  stand = x.stand;
}

-- a turn from its beginning
pub made_entered : (hall : Hall) (before now after : Pass) (d : DeskState) (told count m : ℕ) → EntersTurn hall before now d → IsTurnBehind told now count → MakesFromItsTurn now count after m → MakesEntries before told after m
made_entered hall before now after d told count m entered b goes = made_from before now after told m (λ i. (entered.enters.knows i).mine) entered.enters.goes_on (goes told b.0)

pub goes_noted : (before now after : Pass) (calls : Steps) (count m : ℕ) → NotesTurn before now calls → MakesFromItsTurn now count after m → MakesFromItsTurn before count after m
goes_noted before now after calls count m n goes = λ told lt.
    made_from before now after told m (λ i. (n.notes.knows i).mine) (subst (IsPrefix (history_of before)) (sym (λ i. (n.notes.knows i).seen)) (prefix_self (history_of before))) (goes told lt)

pub at_noted : (before now : Pass) (calls : Steps) (count : ℕ) → NotesTurn before now calls → IsTurnAt before count → IsTurnAt now count
at_noted before now calls count n at = (λ i. suc (length (n.notes.knows i).seen)) ∙ at

-- entries, and then others
pub made_then : (a b c : Pass) (n k m : ℕ) → MakesEntries a n b k → MakesEntries b k c m → MakesEntries a n c m
made_then a b c n k m x y = record {
  goes_on = prefix_trans (history_of a) (history_of b) (history_of c) x.goes_on y.goes_on;
  entries = x.entries ++ y.entries;
  made = y.made ∙ (ap (λ (es : List (Entry Steps)). es ++ y.entries) x.made ∙ append_assoc (entries_by a) x.entries y.entries);
  stand = stand_append (history_of c) n k m x.entries y.entries (stand_longer (history_of b) (history_of c) n x.entries k y.goes_on x.stand) y.stand;
}

-- this turn's, and then others
pub goes_then : (now after last : Pass) (count m : ℕ) → IsTurnAt now count → EndsItsTurn now after → MakesEntries after count last m → MakesFromItsTurn now count last m
goes_then now after last count m at e y = λ told lt. made_then now after last told count m (goes_on_ended now after count at e told lt) y

-- from this turn on, and then others
pub goes_more : (now mid last : Pass) (count k m : ℕ) → MakesFromItsTurn now count mid k → MakesEntries mid k last m → MakesFromItsTurn now count last m
goes_more now mid last count k m goes y = λ told lt. made_then now mid last told k m (goes told lt) y
