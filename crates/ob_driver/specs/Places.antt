-- Where the driver's turns stand in the one history; and rounds, in each of which the clients made by hand make their steps, and then the driver does one thing.
use Rattle.std.specs.Prelude.{◌≡◌, ◌<◌, ◌≤◌, ℕ, suc, List, [], ◌∷◌, ◌++◌, length, flat_map, Some, slice_get}
use mathlib.Core.List.{IsPrefix}
use Rattle.ob_turn.specs.declared.turn.Entry.{Entry}
use Rattle.ob_hall.specs.Passes.{Steps, Pass, history_of, entries_by}
use Rattle.ob_conduct.specs.Acts.{Act}
use Rattle.ob_conduct.specs.Rounds.{IsOneThing}
use Rattle.ob_driver.specs.Turning.{AreActs}

-- These entries stand in the history one behind the other, the first of them behind the first n; up to the last of them there are m.
abbrev pub StandIn : List (Entry Steps) → ℕ → List (Entry Steps) → ℕ → Type 0
StandIn log n [] m = n ≡ m
StandIn log n (e ∷ entries) m = (at : ℕ) × (n ≤ at) × (slice_get log at ≡ Some e) × StandIn log (suc at) entries m

-- The pass made entries, which stand so in the history that it has seen.
pub record MakesEntries (before : Pass) (n : ℕ) (after : Pass) (m : ℕ) : Type 0 where
  pub goes_on : IsPrefix (history_of before) (history_of after)
  pub entries : List (Entry Steps)
  pub made : entries_by after ≡ entries_by before ++ entries
  pub stand : StandIn (history_of after) n entries m

-- In its turn: with this one there are so many turns.
abbrev pub IsTurnAt : Pass → ℕ → Type 0
IsTurnAt pass count = suc (length (history_of pass)) ≡ count

-- The pass ended its turn: that turn's entry is the next one of the history that it had seen.
pub record EndsItsTurn (now after : Pass) : Type 0 where
  pub turn : Entry Steps
  pub made : entries_by after ≡ entries_by now ++ turn ∷ []
  pub seen : history_of after ≡ history_of now ++ turn ∷ []

-- From its turn on the pass made entries: this turn's, and maybe others behind it.
abbrev pub MakesFromItsTurn : Pass → ℕ → Pass → ℕ → Type 0
MakesFromItsTurn now count after m = (told : ℕ) → told < count → MakesEntries now told after m

-- One round, by what it left.
pub record HandRound (H : Type 0) : Type 0 where
  -- the clients made by hand as they stood behind their steps, and how many turns there were then
  pub hands : H
  pub stepped : ℕ
  -- what the driver did then, in these turns of its own; and how many turns there were up to the last of them
  pub thing : List Act
  pub entries : List (Entry Steps)
  pub turns : ℕ

-- Rounds one behind the other, from where the hands stood first, and so many turns, to where they stand last, and so many. In each the hands make their steps, and then the driver does one thing, in turns that stand in the history behind theirs.
abbrev pub AreHandRounds : {H : Type 0} → (ℕ → H → H → ℕ → Type 0) → List (Entry Steps) → ℕ → H → List (HandRound H) → H → ℕ → Type 0
AreHandRounds steps log n first [] last m = (last ≡ first) × (n ≡ m)
AreHandRounds steps log n first (r ∷ rounds) last m = steps n first r.hands r.stepped × IsOneThing r.thing × AreActs r.entries r.thing × StandIn log r.stepped r.entries r.turns × AreHandRounds steps log r.turns r.hands rounds last m

-- The acts were done in such rounds, from the first turn on, in the entries that the driver's pass made meanwhile.
pub record AreInRounds {H : Type 0} (steps : ℕ → H → H → ℕ → Type 0) (first last : H) (before after : Pass) (acts : List Act) : Type 0 where
  pub rounds : List (HandRound H)
  pub count : ℕ
  pub are : AreHandRounds steps (history_of after) 0 first rounds last count
  pub acts_are : acts ≡ flat_map (λ (r : HandRound H). r.thing) rounds
  pub made : entries_by after ≡ entries_by before ++ flat_map (λ (r : HandRound H). r.entries) rounds
