-- A run, by threads or by hand, has acts that are a list of the world.
use Rattle.std.proofs.Common.{◌≡◌, ℕ, suc, true, false, List, [], ◌∷◌, ◌++◌, map, refl, ap, ◌∙◌, subst, append_assoc}
use Rattle.std.specs.Prelude.{All, flat_map, Result, Ok}
use Rattle.std.proofs.lemmas.List.Elements.{All-nil, All-cons}
use Rattle.ob_serial.specs.Vaults.{VaultState, standing_now}
use Rattle.ob_serial.specs.VaultKinds.{Kind}
use Rattle.ob_desk.specs.Desk.{DeskState, Setup, new_desk}
use Rattle.ob_desk.specs.Beats.{BeatKind}
use Rattle.ob_session.specs.Steps.{Leads}
use Rattle.ob_session.proofs.Runs.{records_tell}
use Rattle.ob_conduct.specs.declared.run_err.RunErr.{RunErr}
use Rattle.ob_conduct.specs.Acts.{Act, Says, Halts, Rests, Takes, Delivers, DeliverFails, FetchFails, RestUnwatched, Closes, Publishes, Refuses, Unprinted, Unwatched, history, calls}
use Rattle.ob_conduct.specs.Rounds.{AreTurns, IsOneThing, OneRound, acts_of, AreRounds, InRounds}
use Rattle.ob_conduct.specs.Scenes.{RunState, RunnerKind}
use Rattle.ob_conduct.specs.Records.{IsOver}
use Rattle.ob_conduct.specs.Conducted.{Conducted}
use Rattle.ob_conduct.proofs.Moving.{called}
use Rattle.ob_driver.specs.Drives.{AreThings}
use Rattle.ob_run.specs.Threaded.{driven}
use Rattle.ob_world.specs.Worlds.{opened_vault}
use Rattle.ob_world.specs.Laws.{AreActsFrom, RunsAreWorlds, RunsEndWhole}
use Rattle.ob_world.proofs.Weaving.{acts_are_a_world}

turns_driven : (clients : List ℕ) (turns more : List Act) → AreTurns clients turns → driven (turns ++ more) ≡ driven more
turns_driven [] [] more turns = refl
turns_driven (client ∷ clients) (Says number steps ∷ turns) more h = turns_driven clients turns more h.1
turns_driven (client ∷ clients) (Halts fault ∷ turns) more h = absurd h.0
turns_driven (client ∷ clients) (Rests look ∷ turns) more h = absurd h.0
turns_driven (client ∷ clients) (Takes look keys ∷ turns) more h = absurd h.0
turns_driven (client ∷ clients) (Delivers batch ∷ turns) more h = absurd h.0
turns_driven (client ∷ clients) (DeliverFails keys fault ∷ turns) more h = absurd h.0
turns_driven (client ∷ clients) (FetchFails look batches keys fault ∷ turns) more h = absurd h.0
turns_driven (client ∷ clients) (RestUnwatched look batches ∷ turns) more h = absurd h.0
turns_driven (client ∷ clients) (Closes look batches writes ∷ turns) more h = absurd h.0
turns_driven (client ∷ clients) (Publishes writes left told ∷ turns) more h = absurd h.0
turns_driven (client ∷ clients) (Refuses writes refused ∷ turns) more h = absurd h.0
turns_driven (client ∷ clients) (Unprinted ∷ turns) more h = absurd h.0
turns_driven (client ∷ clients) (Unwatched ∷ turns) more h = absurd h.0
turns_driven _ _ more h = absurd h

thing_driven : (thing more : List Act) → IsOneThing thing → driven (thing ++ more) ≡ thing ++ driven more
thing_driven (Halts fault ∷ []) more one = refl
thing_driven (Rests look ∷ []) more one = refl
thing_driven (Takes look keys ∷ Delivers batch ∷ []) more one = refl
thing_driven (Takes look keys ∷ Delivers batch ∷ Unwatched ∷ []) more one = refl
thing_driven (Takes look keys ∷ DeliverFails asked fault ∷ []) more one = refl
thing_driven (FetchFails look batches keys fault ∷ []) more one = refl
thing_driven (RestUnwatched look batches ∷ []) more one = refl
thing_driven (Closes look batches writes ∷ Publishes ended left told ∷ []) more one = refl
thing_driven (Closes look batches writes ∷ Publishes ended left told ∷ Unprinted ∷ []) more one = refl
thing_driven (Closes look batches writes ∷ Publishes ended left told ∷ Unwatched ∷ []) more one = refl
thing_driven (Closes look batches writes ∷ Refuses asked refused ∷ []) more one = refl
thing_driven _ more one = absurd one

abbrev things_of : List OneRound → List (List Act)
things_of rounds = map (λ (round : OneRound). round.thing) rounds

rounds_driven : (clients : List ℕ) (rounds : List OneRound) → AreRounds clients rounds → (driven (acts_of rounds) ≡ flat_map (λ (thing : List Act). thing) (things_of rounds)) × All IsOneThing (things_of rounds)
rounds_driven clients [] each = (refl, All-nil IsOneThing)
rounds_driven clients (round ∷ rounds) each =
    let (same, all) = rounds_driven clients rounds each.2 in (
      ap driven (append_assoc round.turns round.thing (acts_of rounds)) ∙ (turns_driven clients round.turns (round.thing ++ acts_of rounds) each.0 ∙ (thing_driven round.thing (acts_of rounds) each.1 ∙ ap (λ (l : List Act). round.thing ++ l) same)),
      All-cons IsOneThing round.thing (things_of rounds) each.1 all,
    )

-- whole rounds are things of the driver, one behind the other
pub rounds_are_things : (clients : List ℕ) (acts : List Act) → InRounds clients acts → AreThings (driven acts)
rounds_are_things clients acts r =
    let (same, all) = rounds_driven clients r.rounds r.each in
    record { things = things_of r.rounds; acts_are = ap driven r.acts_are ∙ same; each = all }

module _ {V U Plan : Type 0} (k : Kind V) (kind : RunnerKind U Plan) where
  acts_from : (beat : BeatKind) (old new : RunState V U) (acts : List Act) (result : Result (Unit {0}) RunErr) (setup : Setup) (v : VaultState) → Conducted k kind beat old new acts result
      → old.scene.desk ≡ new_desk setup (suc v.epoch) v.left (map kind.client old.runners) → k.holds old.scene.vault v → v ≡ opened_vault setup.params.batches (standing_now v) v.left
      → AreActsFrom k setup (map kind.client old.runners) v old.scene.vault new.scene.vault acts new.scene.desk
  acts_from beat old new acts result setup v c is holds fresh = record {
    beat = beat;
    allowed = c.allowed;
    leads = subst (λ (d : DeskState). Leads d (history acts) new.scene.desk) is c.leads;
    chain = called k old.scene.vault old.scene.trace (calls acts) c.notes new.scene.vault new.scene.trace c.chain;
    holds = holds;
    fresh = fresh;
  }

  pub runs_are_worlds : RunsAreWorlds k kind
  runs_are_worlds true beat old new result setup v (acts, c, threaded) is holds fresh =
      (acts, c, acts_are_a_world k setup (map kind.client old.runners) v old.scene.vault new.scene.vault acts new.scene.desk (acts_from beat old new acts result setup v c is holds fresh) threaded.things)
  runs_are_worlds false beat old new result setup v (acts, c, rounds) is holds fresh = (
    acts,
    c,
    acts_are_a_world k setup (map kind.client old.runners) v old.scene.vault new.scene.vault acts new.scene.desk (acts_from beat old new acts result setup v c is holds fresh)
        (rounds_are_things (map kind.client old.runners) acts rounds),
  )

  pub runs_end_whole : RunsEndWhole k kind
  runs_end_whole threads beat old new done setup v run is holds fresh opens =
      let (acts, c, w) = runs_are_worlds threads beat old new (Ok done) setup v run is holds fresh in
      let over : IsOver new.scene.desk = c.ends.1 in (
        acts,
        c,
        w,
        over,
        w.rests over.at_rest.not_stopped,
        λ number. records_tell.all setup (suc v.epoch) v.left (map kind.client old.runners) (history acts) new.scene.desk number opens
            (subst (λ (d : DeskState). Leads d (history acts) new.scene.desk) is c.leads) over.at_rest,
      )
