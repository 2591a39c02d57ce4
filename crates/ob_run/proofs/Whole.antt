-- A run by threads, from what its driver did and what came back of its clients.
use Rattle.std.proofs.Common.{◌≡◌, ◌∙◌, ℕ, suc, All, List, [], ◌∷◌, ◌++◌, map, slice_get, Some, Ok, Err, Result, drop, false, sym, ap, subst, inl, inr, decimal}
use Rattle.std.proofs.lemmas.List.Elements.{All-head, All-tail}
use Rattle.ob_base.specs.declared.params.Params.{Params}
use Rattle.ob_base.specs.declared.fault.Fault.TheVariants.{Memory}
use Rattle.ob_io.specs.Streams.{Flow}
use Rattle.ob_report.specs.Printed.{IsPrinted}
use Rattle.ob_report.specs.Report.{report}
use Rattle.ob_serial.specs.Serial.{EpochRecord}
use Rattle.ob_serial.specs.Vaults.{VaultCall, VaultAnswer, VaultCounts}
use Rattle.ob_serial.specs.VaultKinds.{Kind, ended_of}
use Rattle.ob_shares.specs.declared.shares.Shares.{Shares}
use Rattle.ob_desk.specs.Desk.{DeskState, MayOpen, new_desk, setup_with}
use Rattle.ob_desk.specs.Beats.{BeatKind}
use Rattle.ob_session.specs.Clients.{said_by, stands_after}
use Rattle.ob_session.specs.declared.runner.Step.TheVariants.{Done}
use Rattle.ob_session.proofs.Rolls.{new_numbers}
use Rattle.ob_turn.specs.declared.turn.Entry.{Entry}
use Rattle.ob_turn.specs.History.{entries_of}
use Rattle.ob_hall.specs.Turns.{client_numbers}
use Rattle.ob_hall.specs.Passes.{Steps, Hall, Pass, IsNew, IsRaised, opening_of, pass_place, entries_by, raised_by, calls_in, said_of}
use Rattle.ob_hall.specs.Opening.{AreClients, ArePasses}
use Rattle.ob_hall.specs.Closing.{HasPass, IsWholeHistory}
use Rattle.ob_hall.specs.Driving.{StepRule}
use Rattle.ob_hall.specs.Laws.{AreOwnCalls}
use Rattle.ob_hall.proofs.Agreeing.{numbers_rise}
use Rattle.ob_conduct.specs.declared.run_err.RunErr.{RunErr}
use Rattle.ob_conduct.specs.declared.run_err.RunErr.TheVariants as failed
use Rattle.ob_conduct.specs.Acts.{Act, Says, Halts, Rests, Takes, Delivers, DeliverFails, FetchFails, RestUnwatched, Closes, Publishes, Refuses, Unprinted, Unwatched, history, calls, records}
use Rattle.ob_conduct.specs.Scenes.{scene, RunState, run_state, RunnerKind, runner_kind, seat_of, AllNoted}
use Rattle.ob_conduct.specs.Records.{contents}
use Rattle.ob_conduct.specs.Rounds.{InRounds}
use Rattle.ob_conduct.specs.Ready.{TellsEpochs}
use Rattle.ob_conduct.specs.Moves.{Moves, AreLines}
use Rattle.ob_conduct.specs.Conducted.{RunEnds}
use Rattle.ob_conduct.proofs.Acting.{printed_whole, one_text}
use Rattle.ob_conduct.proofs.Going.{printed_then}
use Rattle.ob_conduct.proofs.Moving.{called}
use Rattle.ob_conduct.proofs.Conducting.{finish}
use Rattle.ob_driver.specs.Driven.{Side, side, Acts}
use Rattle.ob_driver.specs.Drives.{AreThings, IsFirstPass, RunsOut, RunFails, IsNotBegun}
use Rattle.ob_driver.specs.Turning.{AreActs}
use Rattle.ob_run.specs.Woven.{Woven, HistoriesWeave}
use Rattle.ob_run.specs.Ends.{IsQuiet, AreQuiet, OverRunsEndOver, FailedRunsFail, IdleHallsHaveNone}
use Rattle.ob_run.proofs.Quiet.{steps_quiet}
use Rattle.ob_threads.specs.Served.{Words, words, IsClient, IsLater}
use Rattle.ob_threads.specs.Starts.{Each}
use Rattle.ob_run.specs.Threaded.{is_by_hand, without_others, OthersSignedOff, HandRounds, InThreads}
use Rattle.ob_run.specs.Crews.{AreBack}
use Rattle.ob_run.specs.Serving.{ServeEnds}
use Rattle.ob_run.proofs.Opening.{are_clients}
use Rattle.ob_run.proofs.Shapes.{idle}
use Rattle.ob_run.proofs.WovenRun.{driven_is}
use Rattle.ob_run.proofs.Keeping.{IsPlanned, keeps}
use Rattle.ob_run.proofs.Seats as seats
use Rattle.ob_run.proofs.Hands.{here, numbers_of}
use Rattle.ob_run.proofs.ByHand.{AreHands, hands_are, new_here, told_here, others_off, are_rounds}

-- all lines are written, or a front of them
lines_printed : (act : Act) (told : List (EpochRecord ℕ)) (before after : Flow) → AreLines act told before after → IsPrinted before after (report decimal told)
lines_printed Unprinted told before after cut =
    subst (λ (rs : List (EpochRecord ℕ)). IsPrinted before after (report decimal rs)) (sym cut.told_are)
    (printed_then cut.whole (cut.last ∷ []) before cut.mid after cut.written (subst (IsPrinted cut.mid after) (one_text cut.last) cut.printed))
lines_printed Unwatched told before after lines = printed_whole (report decimal told) before after lines
lines_printed (Says client steps) told before after lines = printed_whole (report decimal told) before after lines
lines_printed (Halts fault) told before after lines = printed_whole (report decimal told) before after lines
lines_printed (Rests look) told before after lines = printed_whole (report decimal told) before after lines
lines_printed (Takes look keys) told before after lines = printed_whole (report decimal told) before after lines
lines_printed (Delivers batch) told before after lines = printed_whole (report decimal told) before after lines
lines_printed (DeliverFails keys fault) told before after lines = printed_whole (report decimal told) before after lines
lines_printed (FetchFails look batches keys fault) told before after lines = printed_whole (report decimal told) before after lines
lines_printed (RestUnwatched look batches) told before after lines = printed_whole (report decimal told) before after lines
lines_printed (Closes look batches writes) told before after lines = printed_whole (report decimal told) before after lines
lines_printed (Publishes writes left published) told before after lines = printed_whole (report decimal told) before after lines
lines_printed (Refuses writes refused) told before after lines = printed_whole (report decimal told) before after lines

module _ {V U Plan : Type 0} (k : Kind V) (beat : BeatKind) (client bound : U → ℕ) (plan : U → Plan) (fits : U → Steps → Type 0) (turn : Plan → StepRule) (p : Params) where
  abbrev kind : RunnerKind U Plan
  kind = runner_kind client bound plan fits turn

  module _ (hall : Hall) (shares : Shares) (c : VaultCounts) (numbers : List ℕ) (opening : opening_of hall ≡ new_desk (setup_with p shares) (suc c.epoch) c.left numbers) (opens : MayOpen (setup_with p shares) (suc c.epoch) c.left numbers)
      (weave : HistoriesWeave k) (own_calls : AreOwnCalls) where
    abbrev w : Words U Plan
    w = words client bound plan fits turn

    abbrev passes_of : List (Pass × U) → List Pass
    passes_of cs = map (λ (x : Pass × U). x.0) cs

    abbrev runners_of : List (Pass × U) → List U
    runners_of cs = map (λ (x : Pass × U). x.1) cs

    new_opening : IsNew (opening_of hall)
    new_opening = record { setup = setup_with p shares; epoch = suc c.epoch; left = c.left; clients = numbers; opens = opens; is = opening }

    numbers_are : client_numbers (opening_of hall) ≡ numbers
    numbers_are = ap client_numbers opening ∙ new_numbers numbers

    module _ (old new : Side V) (cs ns : List (Pass × U)) (d : DeskState) (starts : ℕ) (first : IsFirstPass hall old.pass p c) (are : AreClients hall 0 numbers (passes_of cs)) (clients : All (IsClient w hall) cs) (each : Each (IsLater w hall) cs ns)
        (whole : IsWholeHistory hall (new.pass ∷ passes_of ns) d) where
      abbrev begin : RunState V U
      begin = run_state (scene (opening_of hall) old.vault old.trace) (runners_of cs) old.output

      abbrev end : RunState V U
      end = run_state (scene d new.vault new.trace) (runners_of ns) new.output

      abbrev log : List (Entry Steps)
      log = whole.log

      abbrev raised : List ℕ
      raised = raised_by whole.driver

      drivers : HasPass log raised new.pass
      drivers = All-head (HasPass log raised) new.pass (passes_of ns) whole.passes_are

      others : All (HasPass log raised) (passes_of ns)
      others = All-tail (HasPass log raised) new.pass (passes_of ns) whole.passes_are

      planned_all : (at number : ℕ) → slice_get (client_numbers (opening_of hall)) at ≡ Some number → IsPlanned turn (map (seat_of kind) (runners_of cs)) (opening_of hall) d log own_calls new_opening whole.legal at number
      planned_all = seats.planned client bound plan fits turn hall log raised d own_calls new_opening whole.legal cs ns (subst (λ (l : List ℕ). AreClients hall 0 l (passes_of cs)) (sym numbers_are) are) clients each others

      quiet_all : IsQuiet turn → AreQuiet (opening_of hall) log
      quiet_all quiet at number named = let one = planned_all at number named in steps_quiet turn quiet one.plan number [] (entries_of (suc at) log) one.steps

      module _ (rung : Pass) (found : IsRaised old.pass rung c.epoch) (acts : List Act) (a : Acts k beat (side rung old.vault old.trace old.output) new acts) (things : AreThings acts) where
        place : pass_place new.pass ≡ 0
        place = a.place ∙ (ap (λ s. s.me.0.by) found.seat ∙ first.fresh.place)

        turns_are : entries_of 0 log ≡ a.turns
        turns_are =
            let none : entries_by rung ≡ [] = ap (λ s. s.me.0.mine) found.seat ∙ first.fresh.none_made in
            ap (λ n. entries_of n log) (sym place) ∙ (drivers.own ∙ (a.made ∙ ap (λ (es : List (Entry Steps)). es ++ a.turns) none))

        pub woven : Woven k beat (opening_of hall) d log old.vault new.vault acts
        woven = weave beat (opening_of hall) d log old.vault new.vault acts new_opening whole.legal (subst (λ (es : List (Entry Steps)). AreActs es acts) (sym turns_are) a.are) things a.allowed
            (called k old.vault old.trace (calls acts) a.notes new.vault new.trace a.chain)

        moves : Moves k begin.scene (history woven.acts) (calls woven.acts) end.scene
        moves = record {
          leads = woven.leads;
          notes = a.notes;
          chain = subst (λ (asked : List (VaultCall × VaultAnswer)). AllNoted k old.vault old.trace asked a.notes new.vault new.trace) (sym woven.calls_are) a.chain;
          shown = a.shown;
          run = λ m held. (contents m (records woven.acts), (woven.serial m held).0, (woven.serial m held).1);
        }

        -- the clients by hand, in their rounds
        module _ (b : AreBack w hall starts cs ns old.pass new.pass acts) where
          hands : AreHands w hall starts cs b.first
          hands = hands_are w hall starts cs b.first b.came b.stayed

          abbrev hand : List ℕ
          hand = numbers_of w hall (here w hall b.first)

          rounds : (numbers_of w hall (here w hall b.last) ≡ hand) × InRounds hand (without_others hand woven.acts)
          rounds = are_rounds w hall log raised (numbers_rise (opening_of hall) new_opening) old.pass new.pass b.rounds.count b.first b.rounds.rounds b.last b.rounds.are b.rounds.made first.fresh.none_made place drivers
              (new_here w hall cs b.first (seats.none_yet client bound plan fits turn hall 0 numbers cs are clients) b.came) (told_here w hall log raised b.last ns b.joined others) acts woven.acts b.rounds.acts_are woven.are

          off : OthersSignedOff hand (map client (runners_of cs)) woven.acts
          off =
              subst (λ (s : Steps). All (λ number. is_by_hand hand number ≡ false → stands_after (said_by number s) ≡ Done) (map client (runners_of cs))) (sym woven.history_is)
              (subst (All (λ number. is_by_hand hand number ≡ false → stands_after (said_by number (calls_in log)) ≡ Done)) (seats.stays client bound plan fits turn hall client (seats.same_client client bound plan fits turn hall) cs ns each)
              (seats.signed_off client bound plan fits turn hall log raised d own_calls new_opening whole.legal hand ns (seats.still_clients client bound plan fits turn hall cs ns clients each) others
              (subst (λ (l : List ℕ). All (λ (n : Pass × U). is_by_hand l n.0.client ≡ false → stands_after (said_of n.0) ≡ Done) ns) rounds.0 (others_off w hall log raised [] b.last ns b.joined))))

          by_hand : HandRounds starts (map client (runners_of cs)) woven.acts
          by_hand =
              subst (λ (l : List ℕ). HandRounds starts l woven.acts) (sym (seats.same_numbers client bound plan fits turn hall cs clients)) (record {
                refused = hands.refused;
                some = hands.some;
                rounds = subst (λ (l : List ℕ). InRounds l (without_others l woven.acts)) hands.are rounds.1;
                others = subst (λ (l : List ℕ). OthersSignedOff (hands.refused ++ drop starts (numbers_of w hall cs)) l woven.acts) (seats.same_numbers client bound plan fits turn hall cs clients)
                    (subst (λ (l : List ℕ). OthersSignedOff l (map client (runners_of cs)) woven.acts) hands.are off);
              })

        run_is : (next : ℕ) (result : Result (Unit {0}) RunErr) → AreBack w hall starts cs ns old.pass new.pass acts → TellsEpochs (suc c.epoch) next (ended_of (calls acts)) (records acts) → IsPrinted old.output new.output (report decimal (records acts))
            → RunEnds k begin end woven.acts result → InThreads starts k kind beat begin end result
        run_is next result back told printed ends = (
          woven.acts,
          finish k kind p beat begin (setup_with p shares) (suc c.epoch) c.left numbers opening woven.acts end next result woven.allowed moves
              (subst (λ n. TellsEpochs n next (ended_of (calls woven.acts)) (records woven.acts)) (sym (ap (λ (x : DeskState). x.running.epoch) opening))
              (subst (λ (asked : List (VaultCall × VaultAnswer)). TellsEpochs (suc c.epoch) next (ended_of asked) (records woven.acts)) (sym woven.calls_are)
              (subst (λ (rs : List (EpochRecord ℕ)). TellsEpochs (suc c.epoch) next (ended_of (calls acts)) rs) (sym woven.records_are) told)))
              (subst (λ (rs : List (EpochRecord ℕ)). IsPrinted old.output new.output (report decimal rs)) (sym woven.records_are) printed)
              (subst (λ (s : Steps). All (λ u. fits u (said_by (client u) s)) (runners_of ns)) (sym woven.history_is)
              (seats.fitting client bound plan fits turn hall log raised d own_calls new_opening whole.legal ns (seats.still_clients client bound plan fits turn hall cs ns clients each) others))
              (keeps turn (map (seat_of kind) (runners_of cs)) (opening_of hall) d log own_calls new_opening whole.legal planned_all acts woven.acts woven.are)
              (seats.stays client bound plan fits turn hall client (seats.same_client client bound plan fits turn hall) cs ns each)
              (seats.stays client bound plan fits turn hall bound (seats.same_bound client bound plan fits turn hall) cs ns each)
              (seats.stays client bound plan fits turn hall plan (seats.same_plan client bound plan fits turn hall) cs ns each)
              ends,
          record {
            things = subst AreThings (sym (driven_is (client_numbers (opening_of hall)) log acts woven.acts woven.are)) things;
            by_hand = by_hand back;
          },
        )

      pub runs_out : IsQuiet turn → OverRunsEndOver k → (next : VaultCounts) (done : Unit {0}) → RunsOut k beat hall (AreBack w hall starts cs ns old.pass new.pass) old c new next → InThreads starts k kind beat begin end (Ok done)
      runs_out quiet over next done r = run_is r.rung r.found r.done.acts r.done.done.acts_are r.done.things (suc next.epoch) (Ok done) r.done.also r.done.done.told (printed_whole (report decimal (records r.done.acts)) old.output new.output r.done.done.written)
          (over beat hall old c new next (record { rung = r.rung; found = r.found; done = record { acts = r.done.acts; things = r.done.things; also = tt; done = r.done.done }; over = r.over }) log raised d drivers whole.legal (quiet_all quiet) (woven r.rung r.found r.done.acts r.done.done.acts_are r.done.things))

      pub run_fails : FailedRunsFail k → (err : RunErr) → RunFails k beat hall (AreBack w hall starts cs ns old.pass new.pass) old c new err → InThreads starts k kind beat begin end (Err err)
      run_fails fails err r =
          let f = r.fails.fails in
          run_is r.rung r.found r.fails.acts f.acts_are r.fails.things f.next (Err err) r.fails.also f.told (lines_printed f.last (records r.fails.acts) old.output new.output f.lines)
          (inr (fails beat hall old p c new err first (record { rung = r.rung; found = r.found; fails = record { acts = r.fails.acts; things = r.fails.things; also = tt; fails = f } }) log d whole.legal (woven r.rung r.found r.fails.acts f.acts_are r.fails.things)))

    pub not_begun : (old new : Side V) (cs : List (Pass × U)) (d : DeskState) (starts : ℕ) (err : RunErr) → All (λ u. fits u []) (runners_of cs) → d ≡ opening_of hall → IsNotBegun old new err
        → InThreads starts k kind beat (run_state (scene (opening_of hall) old.vault old.trace) (runners_of cs) old.output) (run_state (scene d new.vault new.trace) (runners_of cs) new.output) (Err err)
    not_begun old new cs d starts err none desk_is (fault_is, same) =
        let begin = run_state (scene (opening_of hall) old.vault old.trace) (runners_of cs) old.output in
        subst (λ (f : RunErr). InThreads starts k kind beat begin (run_state (scene d new.vault new.trace) (runners_of cs) new.output) (Err f)) (sym fault_is)
        (subst (λ (s : Side V). InThreads starts k kind beat begin (run_state (scene d s.vault s.trace) (runners_of cs) s.output) (Err (failed.Fault Memory))) (sym same)
        (subst (λ (x : DeskState). InThreads starts k kind beat begin (run_state (scene x old.vault old.trace) (runners_of cs) old.output) (Err (failed.Fault Memory))) (sym desk_is) (idle k kind p beat begin (setup_with p shares) (suc c.epoch) c.left numbers opening starts none)))

    -- where it was served
    pub served : (old new : Side V) (cs ns : List (Pass × U)) (d : DeskState) (starts : ℕ) (next : VaultCounts) (result : Result (Unit {0}) RunErr) → IsFirstPass hall old.pass p c → ArePasses hall numbers (old.pass ∷ passes_of cs) → All (IsClient w hall) cs
        → Each (IsLater w hall) cs ns → IsWholeHistory hall (new.pass ∷ passes_of ns) d → All (λ u. fits u []) (runners_of cs) → IsQuiet turn → OverRunsEndOver k → FailedRunsFail k → IdleHallsHaveNone
        → ServeEnds k beat w hall starts old c cs new next ns result
        → InThreads starts k kind beat (run_state (scene (opening_of hall) old.vault old.trace) (runners_of cs) old.output) (run_state (scene d new.vault new.trace) (runners_of ns) new.output) result
    served old new cs ns d starts next (Ok done) first passes clients each whole none quiet over fails have r =
        runs_out old new cs ns d starts first (are_clients hall numbers old.pass (passes_of cs) passes) clients each whole quiet over next done r
    served old new cs ns d starts next (Err err) first passes clients each whole none quiet over fails have (inr r) =
        run_fails old new cs ns d starts first (are_clients hall numbers old.pass (passes_of cs) passes) clients each whole fails err r
    served old new cs ns d starts next (Err err) first passes clients each whole none quiet over fails have (inl (begun, same)) =
        subst (λ (l : List (Pass × U)). InThreads starts k kind beat (run_state (scene (opening_of hall) old.vault old.trace) (runners_of cs) old.output) (run_state (scene d new.vault new.trace) (runners_of l) new.output) (Err err)) (sym same)
        (not_begun old new cs d starts err none
        (have hall numbers (new.pass ∷ passes_of ns) d
        (subst (λ (s : Side V). ArePasses hall numbers (s.pass ∷ passes_of ns)) (sym begun.1) (subst (λ (l : List (Pass × U)). ArePasses hall numbers (old.pass ∷ passes_of l)) (sym same) passes)) whole).1 begun)
