-- Clients in threads of their own, and clients whose calls are made by hand.
use Rattle.std.specs.Prelude.{◌≡◌, ◌<◌, ℕ, Bool, true, false, List, [], ◌∷◌, length}
use Rattle.ob_hall.specs.Passes.{Hall, Pass, history_of, said_of}
use Rattle.ob_hall.specs.Calling.{TellsCalls}
use Rattle.ob_hall.specs.Driving.{TurnSays, MakesStep}
use Rattle.ob_session.specs.Clients.{stands_after}
use Rattle.ob_session.specs.declared.runner.Step.{Step}
use Rattle.ob_session.specs.declared.runner.Step.TheVariants as stands
use Rattle.ob_threads.specs.declared.starting.Started.{Started}
use Rattle.ob_threads.specs.declared.starting.Started.TheVariants.{Away, Here}
use Rattle.ob_threads.specs.Served.{Words, IsClient, MakesOwnSteps, StepsToSignOff, IsLater}

-- the two lists are equally long, and each item of the one is so to the other's in its place
abbrev pub Each : {A B : Type 0} → (A → B → Type 0) → List A → List B → Type 0
Each r [] [] = Unit {0}
Each r (x ∷ xs) (y ∷ ys) = r x y × Each r xs ys
Each r _ _ = ⊥

-- how a client comes back from its thread: served, or as it went
abbrev pub ComesBack : {U Plan : Type 0} → Words U Plan → Hall → Pass × U → (Pass × U) × Bool → Type 0
ComesBack w hall before (after, true) = StepsToSignOff w hall before after
ComesBack w hall before (after, false) = after ≡ before

module _ {U Plan : Type 0} (w : Words U Plan) (hall : Hall) where
  -- no call was made of the client, or some
  abbrev pub IsByHand : Pass × U → Pass × U → Type 0
  IsByHand client now = IsClient w hall now × IsLater w hall client now

  -- The client went to a thread; or it is here, and no call was made of it, or some.
  abbrev pub HasItsPlace : Pass × U → Started U → Type 0
  HasItsPlace client (Away handle) = (handle.promise.hall.value ≡ hall) × (handle.promise.client.value ≡ client)
  HasItsPlace client (Here now) = IsByHand client now

  -- One that is away is a client of this hall.
  abbrev pub IsWaitedFor : Started U → Type 0
  IsWaitedFor (Away handle) = (handle.promise.hall.value ≡ hall) × IsClient w hall handle.promise.client.value
  IsWaitedFor (Here now) = Unit {0}

  -- One that is here is a client of this hall.
  abbrev pub CanStep : Started U → Type 0
  CanStep (Away handle) = Unit {0}
  CanStep (Here now) = IsClient w hall now

  -- A client that is here made one step, in a turn of its pass.
  abbrev pub IsStepped : Started U → Started U → Type 0
  IsStepped (Here client) (Here now) = MakesOwnSteps w hall client now × TellsCalls hall client.0 now.0 (TurnSays client.0.client (said_of client.0)) × MakesStep (w.turn (w.plan client.1)) client.0 now.0
  IsStepped (Away handle) now = now ≡ Away handle
  IsStepped (Here client) (Away handle) = ⊥

  -- A client that is away is served, and one that is here is as it was.
  abbrev pub IsJoined : Started U → Pass × U → Type 0
  IsJoined (Away handle) back = StepsToSignOff w hall handle.promise.client.value back
  IsJoined (Here client) back = back ≡ client

-- Behind a round: each client that is here made its last turn behind the one before it, the first of them behind the first n turns; up to the last of these turns there are m.
abbrev pub AreOrdered : {U : Type 0} → ℕ → List (Started U) → ℕ → Type 0
AreOrdered n [] m = n ≡ m
AreOrdered n (Away handle ∷ clients) m = AreOrdered n clients m
AreOrdered n (Here client ∷ clients) m = (n < length (history_of client.0)) × AreOrdered (length (history_of client.0)) clients m

-- Where it stays here the client is as it came.
abbrev pub IsAsItCame : {U : Type 0} → Pass × U → Started U → Type 0
IsAsItCame client (Away handle) = Unit {0}
IsAsItCame client (Here now) = now ≡ client

-- the client as it came, to be made by hand
abbrev pub stays : {U : Type 0} → Pass × U → Started U
stays client = Here client

-- it is here, and its last step ran
abbrev pub ran_here : {U : Type 0} → Started U → Bool
ran_here (Away handle) = false
ran_here (Here client) = is_ran (stands_after (said_of client.0))
  where
    is_ran : Step → Bool
    is_ran stands.Ran = true
    is_ran _ = false
