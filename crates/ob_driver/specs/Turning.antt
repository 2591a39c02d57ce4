-- The driver's turns, and the acts that they are.
use Rattle.std.specs.Prelude.{◌≡◌, List, [], ◌∷◌, ◌++◌}
use Rattle.ob_turn.specs.declared.turn.Entry.{Entry}
use Rattle.ob_hall.specs.Passes.{Steps, Pass, pass_place, history_of, entries_by, calls_in}
use Rattle.ob_conduct.specs.Acts.{Act, Halts, Rests, Takes, Delivers, DeliverFails, FetchFails, RestUnwatched, Closes, Publishes, Refuses, Unprinted, Unwatched, history}
use Rattle.ob_driver.specs.Resting.{noted_by}

-- in its turn the pass noted these calls behind others
pub record NotesMore (before after : Pass) (calls : Steps) : Type 0 where
  pub made : entries_by after ≡ entries_by before
  pub seen : history_of after ≡ history_of before
  pub noted : noted_by after ≡ noted_by before ++ calls
  pub place : pass_place after ≡ pass_place before
  pub ear : after.ear ≡ before.ear

-- the pass made one turn, with these calls
pub record MakesTurn (before after : Pass) (calls : Steps) : Type 0 where
  pub turn : Entry Steps
  pub made : entries_by after ≡ entries_by before ++ turn ∷ []
  pub calls_are : calls_in (turn ∷ []) ≡ calls
  pub place : pass_place after ≡ pass_place before

-- What the driver does in one turn. A batch is taken in one, and delivered or refused in another. An epoch is closed in the turn of its look, behind the batches that were left; and its publish, or what the desk is told of an end that was refused, is another.
abbrev pub IsOneTurn : List Act → Type 0
IsOneTurn (Halts fault ∷ []) = Unit {0}
IsOneTurn (Rests look ∷ []) = Unit {0}
IsOneTurn (Takes look keys ∷ []) = Unit {0}
IsOneTurn (Delivers batch ∷ []) = Unit {0}
IsOneTurn (DeliverFails keys fault ∷ []) = Unit {0}
IsOneTurn (FetchFails look batches keys fault ∷ []) = Unit {0}
IsOneTurn (RestUnwatched look batches ∷ []) = Unit {0}
IsOneTurn (Closes look batches writes ∷ []) = Unit {0}
IsOneTurn (Publishes writes left told ∷ []) = Unit {0}
IsOneTurn (Refuses writes refused ∷ []) = Unit {0}
IsOneTurn (Unprinted ∷ []) = Unit {0}
IsOneTurn (Unwatched ∷ []) = Unit {0}
IsOneTurn _ = ⊥

-- these turns are these acts, turn by turn
abbrev pub AreActs : List (Entry Steps) → List Act → Type 0
AreActs [] acts = acts ≡ []
AreActs (turn ∷ turns) acts = (these : List Act) × (more : List Act) × (acts ≡ these ++ more) × IsOneTurn these × (calls_in (turn ∷ []) ≡ history these) × AreActs turns more
