-- Clients that made their steps can make more, and keep their places.
use Rattle.std.proofs.Common.{ℕ, All, List, [], ◌∷◌, inl, refl, sym, subst}
use Rattle.ob_turn.specs.declared.turn.Entry.{Entry}
use Rattle.ob_hall.specs.Passes.{Steps, Hall, Pass, history_of}
use Rattle.ob_conduct.specs.Acts.{Act}
use Rattle.ob_driver.specs.Places.{HandRound, AreHandRounds, AreInRounds}
use Rattle.ob_threads.specs.declared.starting.Started.{Started}
use Rattle.ob_threads.specs.declared.starting.Started.TheVariants.{Away, Here}
use Rattle.ob_threads.specs.Served.{Words, IsLater}
use Rattle.ob_threads.specs.Starts.{Each, HasItsPlace, CanStep, IsStepped}
use Rattle.ob_threads.proofs.Eaching.{each-all}
use Rattle.ob_threads.proofs.Placing.{still_placed}
use Rattle.ob_run.specs.Crews.{CrewSteps}

module _ {U Plan : Type 0} (w : Words U Plan) (hall : Hall) where
  met : (one next : Started U) → CanStep w hall one → IsStepped w hall one next → CanStep w hall next
  met (Away handle) next is stepped = subst (CanStep w hall) (sym stepped) is
  met (Here client) (Here now) is stepped = stepped.0.is_client
  met (Here client) (Away handle) is stepped = absurd stepped

  pub still_met : (started next : List (Started U)) → All (CanStep w hall) started → Each (IsStepped w hall) started next → All (CanStep w hall) next
  still_met started next all stepped = each-all (IsStepped w hall) (CanStep w hall) (CanStep w hall) met started next all stepped

  places_kept : (log : List (Entry Steps)) (clients : List (Pass × U)) (n : ℕ) (first : List (Started U)) (rounds : List (HandRound (List (Started U)))) (last : List (Started U)) (m : ℕ) → Each (HasItsPlace w hall) clients first → AreHandRounds (CrewSteps w hall) log n first rounds last m
      → Each (HasItsPlace w hall) clients last
  places_kept log clients n first [] last m placed (same, none) = subst (Each (HasItsPlace w hall) clients) (sym same) placed
  places_kept log clients n first (r ∷ rounds) last m placed (steps, one, are, stand, rest) = places_kept log clients r.turns r.hands rounds last m (still_placed w hall clients first r.hands placed steps.0) rest

  pub rounds_kept : (clients : List (Pass × U)) (first last : List (Started U)) (before after : Pass) (acts : List Act) → Each (HasItsPlace w hall) clients first → AreInRounds (CrewSteps w hall) first last before after acts → Each (HasItsPlace w hall) clients last
  rounds_kept clients first last before after acts placed r = places_kept (history_of after) clients 0 first r.rounds last r.count placed r.are

  -- where nothing was done
  pub back_same : (clients : List (Pass × U)) → Each (IsLater w hall) clients clients
  back_same [] = tt
  back_same (c ∷ clients) = (inl refl, back_same clients)
