-- Turns and rounds, one behind the other.
use Rattle.std.proofs.Common.{◌≡◌, ◌∙◌, ℕ, List, [], ◌∷◌, ◌++◌, refl, sym, ap, subst}
use Rattle.std.proofs.lemmas.List.{append-nil, append_assoc}
use Rattle.std.proofs.lemmas.List.Concat.{flat_map-append}
use Rattle.ob_desk.specs.Desk.{Call, Reply}
use Rattle.ob_conduct.specs.Acts.{Act, Says, Halts, Rests, Takes, Delivers, DeliverFails, FetchFails, RestUnwatched, Closes, Publishes, Refuses, Unprinted, Unwatched, desk_calls, history}
use Rattle.ob_conduct.specs.Rounds.{TurnRule, KeepsRule, KeepRule, AreDriven, IsClientTurn, AreTurns, IsOneThing, OneRound, round_acts, acts_of, AreRounds, InRounds, InTurns}

-- ---- turns by their rule

module _ (rule : TurnRule) where
  pub keeps_append : (told : List (Call × Reply)) (acts more : List Act) → KeepRule rule told acts → KeepRule rule (told ++ history acts) more → KeepRule rule told (acts ++ more)
  keeps_append told [] more keeps too = subst (λ (h : List (Call × Reply)). KeepRule rule h more) (append-nil told) too
  keeps_append told (act ∷ acts) more (first, rest) too = (
    first,
    keeps_append (told ++ desk_calls act) acts more rest (subst (λ (h : List (Call × Reply)). KeepRule rule h more) (sym (append_assoc told (desk_calls act) (history acts))) too),
  )

  pub keeps_push : (told : List (Call × Reply)) (acts : List Act) (act : Act) → KeepRule rule told acts → KeepsRule rule (told ++ history acts) act → KeepRule rule told (acts ++ act ∷ [])
  keeps_push told acts act keeps too = keeps_append told acts (act ∷ []) keeps (too, tt)

  -- the driver's acts have no part in it
  pub keeps_driven : (told : List (Call × Reply)) (acts : List Act) → AreDriven acts → KeepRule rule told acts
  keeps_driven told [] driven = tt
  keeps_driven told (Says client steps ∷ acts) driven = absurd driven
  keeps_driven told (Halts fault ∷ acts) driven = (tt, keeps_driven (told ++ desk_calls (Halts fault)) acts driven)
  keeps_driven told (Rests look ∷ acts) driven = (tt, keeps_driven (told ++ desk_calls (Rests look)) acts driven)
  keeps_driven told (Takes look keys ∷ acts) driven = (tt, keeps_driven (told ++ desk_calls (Takes look keys)) acts driven)
  keeps_driven told (Delivers batch ∷ acts) driven = (tt, keeps_driven (told ++ desk_calls (Delivers batch)) acts driven)
  keeps_driven told (DeliverFails keys fault ∷ acts) driven = (tt, keeps_driven (told ++ desk_calls (DeliverFails keys fault)) acts driven)
  keeps_driven told (FetchFails look batches keys fault ∷ acts) driven = (tt, keeps_driven (told ++ desk_calls (FetchFails look batches keys fault)) acts driven)
  keeps_driven told (RestUnwatched look batches ∷ acts) driven = (tt, keeps_driven (told ++ desk_calls (RestUnwatched look batches)) acts driven)
  keeps_driven told (Closes look batches writes ∷ acts) driven = (tt, keeps_driven (told ++ desk_calls (Closes look batches writes)) acts driven)
  keeps_driven told (Publishes writes left told_now ∷ acts) driven = (tt, keeps_driven (told ++ desk_calls (Publishes writes left told_now)) acts driven)
  keeps_driven told (Refuses writes refused ∷ acts) driven = (tt, keeps_driven (told ++ desk_calls (Refuses writes refused)) acts driven)
  keeps_driven told (Unprinted ∷ acts) driven = (tt, keeps_driven (told ++ desk_calls Unprinted) acts driven)
  keeps_driven told (Unwatched ∷ acts) driven = (tt, keeps_driven (told ++ desk_calls Unwatched) acts driven)

-- a stronger rule
pub keeps_weaker : (rule other : TurnRule) → ((client : ℕ) (said steps : List (Call × Reply)) → rule client said steps → other client said steps) → (told : List (Call × Reply)) (acts : List Act) → KeepRule rule told acts → KeepRule other told acts
keeps_weaker rule other so told [] keeps = tt
keeps_weaker rule other so told (Says client steps ∷ acts) (first, rest) = (so client _ steps first, keeps_weaker rule other so (told ++ desk_calls (Says client steps)) acts rest)
keeps_weaker rule other so told (Halts fault ∷ acts) (first, rest) = (tt, keeps_weaker rule other so (told ++ desk_calls (Halts fault)) acts rest)
keeps_weaker rule other so told (Rests look ∷ acts) (first, rest) = (tt, keeps_weaker rule other so (told ++ desk_calls (Rests look)) acts rest)
keeps_weaker rule other so told (Takes look keys ∷ acts) (first, rest) = (tt, keeps_weaker rule other so (told ++ desk_calls (Takes look keys)) acts rest)
keeps_weaker rule other so told (Delivers batch ∷ acts) (first, rest) = (tt, keeps_weaker rule other so (told ++ desk_calls (Delivers batch)) acts rest)
keeps_weaker rule other so told (DeliverFails keys fault ∷ acts) (first, rest) = (tt, keeps_weaker rule other so (told ++ desk_calls (DeliverFails keys fault)) acts rest)
keeps_weaker rule other so told (FetchFails look batches keys fault ∷ acts) (first, rest) = (tt, keeps_weaker rule other so (told ++ desk_calls (FetchFails look batches keys fault)) acts rest)
keeps_weaker rule other so told (RestUnwatched look batches ∷ acts) (first, rest) = (tt, keeps_weaker rule other so (told ++ desk_calls (RestUnwatched look batches)) acts rest)
keeps_weaker rule other so told (Closes look batches writes ∷ acts) (first, rest) = (tt, keeps_weaker rule other so (told ++ desk_calls (Closes look batches writes)) acts rest)
keeps_weaker rule other so told (Publishes writes left told_now ∷ acts) (first, rest) = (tt, keeps_weaker rule other so (told ++ desk_calls (Publishes writes left told_now)) acts rest)
keeps_weaker rule other so told (Refuses writes refused ∷ acts) (first, rest) = (tt, keeps_weaker rule other so (told ++ desk_calls (Refuses writes refused)) acts rest)
keeps_weaker rule other so told (Unprinted ∷ acts) (first, rest) = (tt, keeps_weaker rule other so (told ++ desk_calls Unprinted) acts rest)
keeps_weaker rule other so told (Unwatched ∷ acts) (first, rest) = (tt, keeps_weaker rule other so (told ++ desk_calls Unwatched) acts rest)

-- ---- rounds

pub turns_push : (clients : List ℕ) (acts : List Act) (client : ℕ) (act : Act) → AreTurns clients acts → IsClientTurn client act → AreTurns (clients ++ client ∷ []) (acts ++ act ∷ [])
turns_push [] [] client act are turn = (turn, tt)
turns_push [] (a ∷ acts) client act are turn = absurd are
turns_push (c ∷ clients) [] client act are turn = absurd are
turns_push (c ∷ clients) (a ∷ acts) client act (first, rest) turn = (first, turns_push clients acts client act rest turn)

pub rounds_push : (clients : List ℕ) (rounds : List OneRound) (round : OneRound) → AreRounds clients rounds → AreTurns clients round.turns → IsOneThing round.thing → AreRounds clients (rounds ++ round ∷ [])
rounds_push clients [] round are turns one = (turns, one, tt)
rounds_push clients (r ∷ rounds) round (first, driver, rest) turns one = (first, driver, rounds_push clients rounds round rest turns one)

acts_more : (rounds : List OneRound) (round : OneRound) → acts_of (rounds ++ round ∷ []) ≡ acts_of rounds ++ round_acts round
acts_more rounds round = flat_map-append round_acts rounds (round ∷ []) ∙ ap (λ (x : List Act). acts_of rounds ++ x) (append-nil (round_acts round))

pub in_rounds_none : (clients : List ℕ) → InRounds clients []
in_rounds_none clients = record { rounds = []; acts_are = refl; each = tt }

-- the clients made their turns
pub in_turns : (clients : List ℕ) (acts turns : List Act) → InRounds clients acts → AreTurns clients turns → InTurns clients (acts ++ turns)
in_turns clients acts turns r are = record {
  rounds = r.rounds;
  turns = turns;
  acts_are = ap (λ (x : List Act). x ++ turns) r.acts_are;
  each = r.each;
  begun = are;
}

-- and then the driver did one thing
pub round_ends : (clients : List ℕ) (acts thing : List Act) → InTurns clients acts → IsOneThing thing → InRounds clients (acts ++ thing)
round_ends clients acts thing t one = let round : OneRound = record { turns = t.turns; thing = thing } in record {
  rounds = t.rounds ++ round ∷ [];
  acts_are = ap (λ (x : List Act). x ++ thing) t.acts_are ∙ append_assoc (acts_of t.rounds) t.turns thing ∙ sym (acts_more t.rounds round);
  each = rounds_push clients t.rounds round t.each t.begun one;
}
