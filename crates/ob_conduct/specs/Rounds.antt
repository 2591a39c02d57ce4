-- What each client makes in its turns, and the rounds of a run: a turn of each client, in order, and then one thing that the driver does.
use Rattle.std.specs.Prelude.{ℕ, ◌≡◌, List, [], ◌∷◌, ◌++◌, flat_map, Contains}
use Rattle.ob_desk.specs.Desk.{Call, Reply}
use Rattle.ob_session.specs.Clients.{said_by}
use Rattle.ob_conduct.specs.Acts.{Act, Says, Halts, Rests, Takes, Delivers, DeliverFails, FetchFails, RestUnwatched, Closes, Publishes, Refuses, Unprinted, Unwatched, desk_calls}

-- What a turn may be, by the client's number, all that it said before, and its calls in the turn.
abbrev pub TurnRule : Type 1
TurnRule = ℕ → List (Call × Reply) → List (Call × Reply) → Type 0

-- by what one of these clients is to do
abbrev pub plan_rule : {Plan : Type 0} → (Plan → TurnRule) → List (ℕ × Plan) → TurnRule
plan_rule {Plan} turn seats client said steps = (plan : Plan) × Contains seats (client, plan) × turn plan client said steps

-- what is so of an act behind these calls: a client's is a turn of it
abbrev pub KeepsRule : TurnRule → List (Call × Reply) → Act → Type 0
KeepsRule rule told (Says client steps) = rule client (said_by client told) steps
KeepsRule rule told _ = Unit {0}

-- Whatever the order of the clients: each act of a client is a turn of it, behind all that was told before.
abbrev pub KeepRule : TurnRule → List (Call × Reply) → List Act → Type 0
KeepRule rule told [] = Unit {0}
KeepRule rule told (act ∷ acts) = KeepsRule rule told act × KeepRule rule (told ++ desk_calls act) acts

-- none of these acts is a client's
abbrev pub AreDriven : List Act → Type 0
AreDriven [] = Unit {0}
AreDriven (Says client steps ∷ acts) = ⊥
AreDriven (_ ∷ acts) = AreDriven acts

-- this client's turn
abbrev pub IsClientTurn : ℕ → Act → Type 0
IsClientTurn client (Says number steps) = number ≡ client
IsClientTurn client _ = ⊥

-- a turn of each of these clients, in order
abbrev pub AreTurns : List ℕ → List Act → Type 0
AreTurns [] [] = Unit {0}
AreTurns (client ∷ clients) (act ∷ acts) = IsClientTurn client act × AreTurns clients acts
AreTurns _ _ = ⊥

-- One thing that the driver does, all at one look: a batch that was taken is the one that is delivered or refused, and an epoch that was
-- closed is ended with its writes. Where the watch broke the desk is stopped behind what was done.
abbrev pub IsOneThing : List Act → Type 0
IsOneThing (Halts fault ∷ []) = Unit {0}
IsOneThing (Rests look ∷ []) = Unit {0}
IsOneThing (Takes look keys ∷ Delivers batch ∷ []) = batch.keys ≡ keys
IsOneThing (Takes look keys ∷ Delivers batch ∷ Unwatched ∷ []) = batch.keys ≡ keys
IsOneThing (Takes look keys ∷ DeliverFails asked fault ∷ []) = asked ≡ keys
IsOneThing (FetchFails look batches keys fault ∷ []) = Unit {0}
IsOneThing (RestUnwatched look batches ∷ []) = Unit {0}
IsOneThing (Closes look batches writes ∷ Publishes ended left told ∷ []) = ended ≡ writes
IsOneThing (Closes look batches writes ∷ Publishes ended left told ∷ Unprinted ∷ []) = ended ≡ writes
IsOneThing (Closes look batches writes ∷ Publishes ended left told ∷ Unwatched ∷ []) = ended ≡ writes
IsOneThing (Closes look batches writes ∷ Refuses asked refused ∷ []) = asked ≡ writes
IsOneThing _ = ⊥

pub record OneRound : Type 0 where
  pub turns : List Act
  pub thing : List Act

abbrev pub round_acts : OneRound → List Act
round_acts round = round.turns ++ round.thing

abbrev pub acts_of : List OneRound → List Act
acts_of rounds = flat_map round_acts rounds

-- in each round a turn of each client, and then one thing that the driver does
abbrev pub AreRounds : List ℕ → List OneRound → Type 0
AreRounds clients [] = Unit {0}
AreRounds clients (round ∷ rounds) = AreTurns clients round.turns × IsOneThing round.thing × AreRounds clients rounds

-- these acts are whole rounds
pub record InRounds (clients : List ℕ) (acts : List Act) : Type 0 where
  pub rounds : List OneRound
  pub acts_are : acts ≡ acts_of rounds
  pub each : AreRounds clients rounds

-- these acts are whole rounds, and the clients' turns of one more
pub record InTurns (clients : List ℕ) (acts : List Act) : Type 0 where
  pub rounds : List OneRound
  pub turns : List Act
  pub acts_are : acts ≡ acts_of rounds ++ turns
  pub each : AreRounds clients rounds
  pub begun : AreTurns clients turns
