-- Rounds of the clients that are made by hand.
use Rattle.std.specs.Prelude.{◌≡◌, ℕ, List, drop, map}
use Rattle.ob_hall.specs.Passes.{Hall, Pass}
use Rattle.ob_conduct.specs.Acts.{Act}
use Rattle.ob_driver.specs.Places.{AreInRounds}
use Rattle.ob_threads.specs.declared.starting.Started.{Started}
use Rattle.ob_threads.specs.Served.{Words}
use Rattle.ob_threads.specs.Starts.{Each, HasItsPlace, IsAsItCame, IsStepped, IsJoined, AreOrdered, stays}

-- Each client that is here made one step, and those that are away stayed. The turns of these steps stand one behind the other, and behind the first n; up to the last of them there are m.
abbrev pub CrewSteps : {U Plan : Type 0} → Words U Plan → Hall → ℕ → List (Started U) → List (Started U) → ℕ → Type 0
CrewSteps w hall n before after m = Each (IsStepped w hall) before after × AreOrdered n after m

-- Each client was started, where it had one of the flags, or stayed as it came. The driver's acts, in the turns of its pass, were done in rounds, in each of which those that were here made a step before. So they stand last, and those that are away are still to be joined.
pub record AreOut {U Plan : Type 0} (w : Words U Plan) (hall : Hall) (flags : ℕ) (clients : List (Pass × U)) (last : List (Started U)) (before after : Pass) (acts : List Act) : Type 0 where
  pub first : List (Started U)
  pub placed : Each (HasItsPlace w hall) clients first
  pub came : Each IsAsItCame clients first
  pub stayed : drop flags first ≡ map stays (drop flags clients)
  pub rounds : AreInRounds (CrewSteps w hall) first last before after acts

-- Each client was started, where it had one of the flags, or stayed as it came. The driver's acts, in the turns of its pass, were done in rounds, in each of which those that were here made a step before. All are back in their places, those that were away served.
pub record AreBack {U Plan : Type 0} (w : Words U Plan) (hall : Hall) (flags : ℕ) (clients back : List (Pass × U)) (before after : Pass) (acts : List Act) : Type 0 where
  pub first : List (Started U)
  pub placed : Each (HasItsPlace w hall) clients first
  pub came : Each IsAsItCame clients first
  pub stayed : drop flags first ≡ map stays (drop flags clients)
  pub last : List (Started U)
  pub rounds : AreInRounds (CrewSteps w hall) first last before after acts
  pub joined : Each (IsJoined w hall) last back
