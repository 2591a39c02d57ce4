-- What holds of a hall at its end.
use Rattle.std.specs.Prelude.{◌≡◌, ℕ, ◌≤◌, true, All, Contains, List, [], length}
use mathlib.Core.List.{IsPrefix}
use Rattle.ob_desk.specs.Desk.{DeskState}
use Rattle.ob_turn.specs.declared.turn.Entry.{Entry}
use Rattle.ob_turn.specs.History.{entries_of}
use Rattle.ob_hall.specs.Passes.{Steps, Hall, Pass, pass_place, history_of, entries_by, raised_by, may_raise, callers_of, IsLegal}

-- The history begins with what the pass had seen, and has of its entries just those that it made, each once; and the numbers that it was told are the first of those that were raised.
pub record HasPass (log : List (Entry Steps)) (raised : List ℕ) (pass : Pass) : Type 0 where
  pub seen : IsPrefix (history_of pass) log
  pub own : entries_of (pass_place pass) log ≡ entries_by pass
  pub told : IsPrefix (raised_by pass) raised

-- One whole history leads from the desk that the hall was made with to this one; it has the entries of these passes, and of no other callers. One of them is the driver's, which raises: the numbers that the passes were told are the first of those that it raised, in order.
pub record IsWholeHistory (hall : Hall) (passes : List Pass) (d : DeskState) : Type 0 where
  pub log : List (Entry Steps)
  pub legal : IsLegal hall log d
  pub driver : Pass
  pub is_one : Contains passes driver
  pub raises : may_raise driver ≡ true
  pub passes_are : All (HasPass log (raised_by driver)) passes
  pub no_others : (by : ℕ) → callers_of hall ≤ by → entries_of by log ≡ []

-- the passes of all callers: as many as there are, and at least the driver's
pub record AreAll (hall : Hall) (passes : List Pass) : Type 0 where
  pub some_pass : 1 ≤ length passes
  pub count : length passes ≡ callers_of hall
