-- A hall that was served and closed: what its calls need, and what has come of it.
use Rattle.std.proofs.Common.{◌≡◌, ◌∙◌, ◌≤◌, ℕ, suc, false, All, List, [], ◌∷◌, map, length, Result, sym, ap, subst, arith}
use Rattle.std.proofs.lemmas.List.{length-map}
use Rattle.std.proofs.lemmas.List.Elements.{All-cons}
use Rattle.ob_conduct.specs.declared.run_err.RunErr.{RunErr}
use Rattle.ob_base.specs.declared.params.Params.{Params}
use Rattle.ob_serial.specs.Vaults.{VaultCounts}
use Rattle.ob_serial.specs.VaultKinds.{Kind}
use Rattle.ob_shares.specs.declared.shares.Shares.{Shares}
use Rattle.ob_desk.specs.Desk.{DeskState, MayOpen, new_desk, setup_with}
use Rattle.ob_desk.specs.Beats.{BeatKind}
use Rattle.ob_hall.specs.Passes.{Steps, Hall, Pass, opening_of, IsPassOf, IsOutOfTurn}
use Rattle.ob_hall.specs.Opening.{AreClients, ArePasses}
use Rattle.ob_hall.specs.Closing.{AreAll, IsWholeHistory}
use Rattle.ob_hall.specs.Calling.{IsReady, IsBetween}
use Rattle.ob_hall.specs.Driving.{StepRule}
use Rattle.ob_hall.specs.Laws.{AreOwnCalls}
use Rattle.ob_conduct.specs.Scenes.{scene, run_state, RunnerKind, runner_kind}
use Rattle.ob_driver.specs.Driven.{Side}
use Rattle.ob_driver.specs.Drives.{IsFirstPass}
use Rattle.ob_run.specs.Woven.{HistoriesWeave}
use Rattle.ob_run.specs.Ends.{IsQuiet, OverRunsEndOver, FailedRunsFail, IdleHallsHaveNone}
use Rattle.ob_threads.specs.Served.{Words, words, IsClient, IsLater}
use Rattle.ob_threads.specs.Starts.{Each}
use Rattle.ob_threads.proofs.Eaching.{each-length}
use Rattle.ob_run.specs.Serving.{ServeEnds}
use Rattle.ob_run.specs.Threaded.{InThreads}
use Rattle.ob_run.proofs.Opening.{first_pass, are_clients, are_ready, as_many, driver_back}
use Rattle.ob_run.proofs.Seats.{seated, still_clients, still_ready}
use Rattle.ob_run.proofs.Whole.{served}

module _ {V U Plan : Type 0} (k : Kind V) (beat : BeatKind) (client bound : U → ℕ) (plan : U → Plan) (fits : U → Steps → Type 0) (turn : Plan → StepRule) (p : Params) (hall : Hall) (shares : Shares) (c : VaultCounts) (runners : List U) (others : List Pass) (cs : List (Pass × U))
    (old : Side V) (opening : opening_of hall ≡ new_desk (setup_with p shares) (suc c.epoch) c.left (map client runners)) (serves : c.spent ≡ false) (passes : ArePasses hall (map client runners) (old.pass ∷ others))
    (runners_are : map (λ (x : Pass × U). x.1) cs ≡ runners) (passes_are : map (λ (x : Pass × U). x.0) cs ≡ others) (below : All (λ u. bound u ≤ p.keys) runners) (none_made : All (λ u. fits u []) runners) (starts : ℕ) where
  abbrev w : Words U Plan
  w = words client bound plan fits turn

  abbrev kind : RunnerKind U Plan
  kind = runner_kind client bound plan fits turn

  abbrev passes_of : List (Pass × U) → List Pass
  passes_of l = map (λ (x : Pass × U). x.0) l

  abbrev runners_of : List (Pass × U) → List U
  runners_of l = map (λ (x : Pass × U). x.1) l

  abbrev numbers : List ℕ
  numbers = map client runners

  pub drivers : IsFirstPass hall old.pass p c
  drivers = first_pass hall numbers old.pass others passes p shares c opening serves

  pub clients : All (IsClient w hall) cs
  clients = seated client bound plan fits turn hall p.keys 0 cs (ap (λ (d : DeskState). d.setup.params.keys) opening)
      (subst (λ (us : List U). AreClients hall 0 (map client us) (passes_of cs)) (sym runners_are) (subst (AreClients hall 0 numbers) (sym passes_are) (are_clients hall numbers old.pass others passes)))
      (subst (All (λ q. IsReady hall q × IsBetween q)) (sym passes_are) (are_ready hall numbers old.pass others passes)) (subst (All (λ u. bound u ≤ p.keys)) (sym runners_are) below) (subst (All (λ u. fits u [])) (sym runners_are) none_made)

  module _ (new : Side V) (next : VaultCounts) (ns : List (Pass × U)) (result : Result (Unit {0}) RunErr) (each : Each (IsLater w hall) cs ns) (ends : ServeEnds k beat w hall starts old c cs new next ns result) where
    last_clients : All (IsClient w hall) ns
    last_clients = still_clients client bound plan fits turn hall cs ns clients each

    -- the passes behind it, the driver's first, may all be handed back
    pub handed_back : All (IsPassOf hall) (new.pass ∷ passes_of ns) × All IsOutOfTurn (new.pass ∷ passes_of ns) × AreAll hall (new.pass ∷ passes_of ns)
    handed_back = (
      All-cons (IsPassOf hall) new.pass (passes_of ns) (driver_back k beat w hall starts p old c cs new next ns result drivers ends).0 (still_ready client bound plan fits turn hall ns last_clients).0,
      All-cons IsOutOfTurn new.pass (passes_of ns) (driver_back k beat w hall starts p old c cs new next ns result drivers ends).1 (still_ready client bound plan fits turn hall ns last_clients).1,
      record {
        some_pass = omega arith;
        count = ap suc (length-map ns (λ (x : Pass × U). x.0) ∙ (each-length (IsLater w hall) cs ns each ∙ (sym (length-map cs (λ (x : Pass × U). x.0)) ∙ (ap length passes_are ∙ as_many hall numbers old.pass others passes)))) ∙ sym passes.callers;
      },
    )

    pub in_threads : (back : List U) (d : DeskState) → back ≡ runners_of ns → IsWholeHistory hall (new.pass ∷ passes_of ns) d → MayOpen (setup_with p shares) (suc c.epoch) c.left numbers → HistoriesWeave k → AreOwnCalls → IsQuiet turn → OverRunsEndOver k → FailedRunsFail k
        → IdleHallsHaveNone → InThreads starts k kind beat (run_state (scene (opening_of hall) old.vault old.trace) runners old.output) (run_state (scene d new.vault new.trace) back new.output) result
    in_threads back d back_is whole opens weave own_calls quiet over fails idle =
        subst (λ (us : List U). InThreads starts k kind beat (run_state (scene (opening_of hall) old.vault old.trace) us old.output) (run_state (scene d new.vault new.trace) back new.output) result) runners_are
        (subst (λ (us : List U). InThreads starts k kind beat (run_state (scene (opening_of hall) old.vault old.trace) (runners_of cs) old.output) (run_state (scene d new.vault new.trace) us new.output) result) (sym back_is)
        (served k beat client bound plan fits turn p hall shares c numbers opening opens weave own_calls old new cs ns d starts next result drivers (subst (λ (ps : List Pass). ArePasses hall numbers (old.pass ∷ ps)) (sym passes_are) passes) clients each
        whole (subst (All (λ u. fits u [])) (sym runners_are) none_made) quiet over fails idle ends))
