-- What serving a script does to the store that a ring vault was lent.
use Rattle.std.specs.List.{All}
use Rattle.std.proofs.Common.{◌≡◌, ◌<◌, ◌∙◌, ◌⊎◌, ⊎_elim, ap, arith, inl, inr, refl, subst, sym, true, false, ℕ, suc, ◌%◌, Bool, List, [], ◌∷◌, length, map, Option, None, Some, Result}
use Rattle.std.proofs.lemmas.Bool.{cases_eq}
use Rattle.ob_base.specs.Layout.{GenerationTwin}
use Rattle.ob_base.specs.declared.params.Params.{Params}
use Rattle.ob_base.specs.declared.fault.Fault.{Fault}
use Rattle.ob_io.specs.Streams.{Flow}
use Rattle.ob_seal.specs.declared.keys.Keys.{Keys}
use Rattle.ob_store.specs.Disk.{Clock, Disk, Image, NotAfter}
use Rattle.ob_schedule.specs.Schedule.{Fills, gate_cell}
use Rattle.ob_store.specs.Lines.{Trace}
use Rattle.ob_store.specs.declared.event.Event.{Event}
use Rattle.ob_serial.specs.VaultKinds.{AllCalled, Called, Kind}
use Rattle.ob_serial.specs.Vaults.{DoubtBy, End, Ended, Fetch, RefusedBy, Values, VaultAnswer, VaultCall}
use Rattle.ob_vault.specs.RingVaults.{RingCalled, Running}
use Rattle.ob_vault.specs.RingKind.{RingFound, ring_hidden, ring_kind, ring_public}
use Rattle.ob_vault.specs.RingSteps.{HasRingWords, RingAt}
use Rattle.ob_vault.specs.Shapes.{Shape, answered}
use Rattle.ob_vault.specs.KindShown.{AreDrawn, IsSeenCut}
use Rattle.ob_vault.specs.Hidden.{IsTapeBehind, RingCutShown, RingHidden}
use Rattle.ob_vault.specs.Seen.{RingPublic}
use Rattle.ob_vault.proofs.Leaving.{goes_on_none, goes_on_refused}
use Rattle.ob_vault.proofs.CallStages.{calls_come_in_stages}
use Rattle.ob_vault.specs.Acts.{AreAllAnswered, is_answered}
use Rattle.ob_vault.specs.Gated.{AreGatesKnown}
use Rattle.ob_vault.proofs.Registers.{chains_known}
use Rattle.ob_admitted.proofs.Gating.{calls_gated, marked_generation, stages_gated}
use Rattle.ob_admitted.proofs.Noting.{calls_noted, stages_noted}
use Rattle.ob_admitted.specs.Told.{MayBeCut}
use Rattle.ob_top.specs.Staged.{IsCallStagedAsShown}
use Rattle.ob_conduct.specs.Records.{AreAnswered}
use Rattle.ob_fetch.specs.declared.run.Run.{Run}
use Rattle.ob_recover.specs.Known.{gates_open}
use Rattle.ob_twin.specs.Opening.{is_marked}
use Rattle.ob_twin.specs.declared.gates.Gates.{Gates}
use Rattle.ob_twin.specs.declared.gates.Open.{Open}
use Rattle.ob_vault.specs.Lives.{RingGoesOn}
use Rattle.ob_vault.specs.RingLives.{ring_lives}
use Rattle.ob_top.specs.Audited.{ring_audits}
use Rattle.ob_vault.proofs.Calling.{RingBehind, ring_does, words_are_of_tape}
use Rattle.ob_script.specs.Script.{ScriptTxn, Scripts, AreSound, asks_by}
use Rattle.ob_shares.specs.declared.shares.Shares.{Shares}
use Rattle.ob_desk.specs.Desk.{MayOpen, new_desk, setup_with}
use Rattle.ob_conduct.specs.declared.run_err.RunErr.{RunErr}
use Rattle.ob_conduct.specs.Scenes.{scene, RunState, run_state, RunnerKind}
use Rattle.ob_run.specs.Threaded.{RunsBy}
use Rattle.ob_outcomes.proofs.Whole.{RunsScripts}
use Rattle.ob_desk.specs.Beats.{BeatKind}
use Rattle.ob_top.specs.Endings.{err_of}
use Rattle.ob_top.specs.Outside.{Given, words_given}
use Rattle.ob_top.specs.Runs.{ServedOver}
use Rattle.ob_top.specs.Parts.{manner}
use Rattle.ob_conduct.specs.Acts.{calls}
use Rattle.ob_top.proofs.Serving.{CallsBehind, IsLender, RestShown, StopShown, serves_on}

-- what the tape of a vault has given
abbrev pub told_by : {S : Type 0} → Running S → Given
told_by run = words_given run.present run.drawn

all_are : (asked : List (VaultCall × VaultAnswer)) → AreAnswered asked → AreAllAnswered asked
all_are [] all = tt
all_are ((Fetch asks, Values values) ∷ asked) all = (refl, all_are asked all)
all_are ((End writes, Ended) ∷ asked) all = (refl, all_are asked all)
all_are ((Fetch asks, Ended) ∷ asked) all = absurd all
all_are ((Fetch asks, RefusedBy fault) ∷ asked) all = absurd all
all_are ((Fetch asks, DoubtBy fault) ∷ asked) all = absurd all
all_are ((End writes, Values values) ∷ asked) all = absurd all
all_are ((End writes, RefusedBy fault) ∷ asked) all = absurd all
all_are ((End writes, DoubtBy fault) ∷ asked) all = absurd all

-- the gates of the generations' register that are known to be open
same_generation : (p : Params) (a b : Gates) (n : ℕ) → a.generation ≡ b.generation → gates_open a (gate_cell p GenerationTwin n) ≡ gates_open b (gate_cell p GenerationTwin n)
same_generation p a b n same =
    let place : (n % 2 ≡ 0) ⊎ (n % 2 ≡ 1) = ⊎_elim (λ even. inl even) (λ odd. inr (omega arith)) (cases_eq (n % 2) 0) in
    marked_generation a (n % 2) place ∙ ap (λ (x : Open). is_marked x (n % 2)) same ∙ sym (marked_generation b (n % 2) place)

module _ {V S : Type 0} (k : Kind V) (disk : S → Disk) (counts_now : (x : S) (t : Clock) (c : Image) → NotAfter t (disk x).moment → (disk x).may_leave c → (disk x).left_since t c)
    (only_now : (x : S) (c : Image) → (disk x).left_since (disk x).moment c → (disk x).may_leave c) (runs : V → Running S) (words : HasRingWords k disk runs) (keys : Keys) (most : ℕ) (p : Params) (f : RingFound) (first : V) where
  pub tells : (q : RingPublic) (h : RingHidden) (so_far : List Shape) (n : ℕ) (v : V) → RingBehind k disk runs words keys most p f (disk (runs first).store) q h so_far n v → (fault : Option Fault) → IsTapeBehind p h None (runs v).drawn fault
  tells q h so_far n v at fault = words_are_of_tape k disk runs keys most p f first q h n v at fault

  pub at_rest : (calls : List VaultCall) (steps : List (Shape × Fills)) (q : RingPublic) (h : RingHidden) (so_far : List Shape) (n : ℕ) (v : V) → AreDrawn ring_kind p (ring_hidden f) calls steps h → RingBehind k disk runs words keys most p f (disk (runs first).store) q h so_far n v
      → (seen : List Event) → RingGoesOn keys most p f (disk (runs first).store) calls steps h None (runs v).drawn seen (disk (runs v).store)
  at_rest calls steps q h so_far n v drawn at = goes_on_none k disk runs words counts_now only_now keys most p f (disk (runs first).store) calls steps q h n v drawn at

  pub at_stop : (calls : List VaultCall) (steps : List (Shape × Fills)) (q : RingPublic) (h : RingHidden) (so_far : List Shape) (n : ℕ) (v : V) → AreDrawn ring_kind p (ring_hidden f) calls steps h → RingBehind k disk runs words keys most p f (disk (runs first).store) q h so_far n v
      → (call : VaultCall) (answer : VaultAnswer) (w : V) (one : Called k v call answer w) (refused : Fault) (seen : List Event) (cut : IsSeenCut ring_kind most p q h (Some call) (runs w).drawn (Some refused) seen) → RingCutShown most p q call cut.0 refused seen one.notes
      → RingGoesOn keys most p f (disk (runs first).store) calls steps h (Some call) (runs w).drawn seen (disk (runs w).store)
  at_stop calls steps q h so_far n v drawn at call answer w one refused seen cut shown = goes_on_refused k disk runs words counts_now only_now keys most p f (disk (runs first).store) calls steps q h n v drawn at call answer w one cut.0 refused seen cut.1 shown

  -- a batch is left for a call that asks for one, and all its places are asked for
  may_be_cut : (q : RingPublic) (h : RingHidden) (n : ℕ) (v : V) → RingAt k disk runs keys most p f (disk (runs first).store) q h n v → (call : VaultCall) (answer : VaultAnswer) (w : V) → Called k v call answer w → MayBeCut p q call
  may_be_cut q h n v at (Fetch asks) answer w one =
      let some : (0 < ((runs v).run).left) × (length asks ≡ (((runs v).run).params).places) = batch_left answer (words.called v (Fetch asks) answer one.notes w one.called) in (
        (let left = at.left in let shown = at.shown in let few = some.0 in omega (arith, left, shown, few)),
        some.1 ∙ ap (λ (x : Params). x.places) at.params,
      )
    where
      batch_left : (answer : VaultAnswer) → RingCalled disk (runs v) (runs w) one.notes (Fetch asks) answer → (0 < ((runs v).run).left) × (length asks ≡ (((runs v).run).params).places)
      batch_left (Values out) is = (is.some_left, is.whole)
      batch_left (RefusedBy refused) is = (is.some_left, is.whole)
      batch_left Ended is = absurd is
      batch_left (DoubtBy refused) is = absurd is
  may_be_cut q h n v at (End writes) answer w one = tt

  module _ (run_is : (runs first).run ≡ f.run) where
    -- the gates that were known go on being known
    module _ (asked : List (VaultCall × VaultAnswer)) (v : V) (chain : AllCalled k first asked v) (all : AreAnswered asked) (known : AreGatesKnown f.run (disk (runs first).store)) where
      chained : AreGatesKnown (runs v).run (disk (runs v).store) × ((((runs v).run).gates).generation ≡ (((runs first).run).gates).generation)
      chained = chains_known k disk runs words first v asked (subst (λ (r : Run). AreGatesKnown r (disk (runs first).store)) (sym run_is) known) chain (all_are asked all)

      still_open : (n : ℕ) → gates_open (f.run).gates (gate_cell p GenerationTwin n) ≡ true → gates_open ((runs v).run).gates (gate_cell p GenerationTwin n) ≡ true
      still_open n opened = same_generation p ((runs v).run).gates (f.run).gates n (chained.1 ∙ ap (λ (r : Run). (r.gates).generation) run_is) ∙ opened

    pub at_stage : (asked : List (VaultCall × VaultAnswer)) (calls : List VaultCall) (steps : List (Shape × Fills)) (q : RingPublic) (h : RingHidden) (so_far : List Shape) (n : ℕ) (v : V) → AllCalled k first asked v → AreAnswered asked → AreDrawn ring_kind p (ring_hidden f) calls steps h
        → RingBehind k disk runs words keys most p f (disk (runs first).store) q h so_far n v → (call : VaultCall) (answer : VaultAnswer) (w : V) → Called k v call answer w
        → IsCallStagedAsShown ring_kind ring_lives ring_audits disk keys most p f (disk (runs first).store) calls steps q h call (runs w).drawn (is_answered answer) (runs v).store (runs w).store
    at_stage asked calls steps q h so_far n v chain all drawn at call answer w one = (
      calls_come_in_stages k disk counts_now only_now runs words keys most p f first calls steps q h n v drawn at call answer w one,
      λ m is stage x cut seen may. (let stops = cut.stops seen may in record {
        goes = stops.0;
        noted = λ fills count many word_of s here tape m' is'. stages_noted p q call fills stage count _ _ (may_be_cut q h n v at call answer w one) (stops.1 word_of s here tape m' is') many;
        gated = λ fills count many known opened.
            stages_gated k disk runs words keys most p f first calls steps q h n v at (chained asked v chain all known).0 (still_open asked v chain all known (suc h.generation) opened) m is call (runs w).drawn stage x cut fills count many;
      }),
    )

    -- where the vault is behind calls, and one more was refused: as it showed
    abbrev AtRest : Type 0
    AtRest = RestShown k ring_kind disk (λ v. (runs v).store) keys most p f first (RingBehind k disk runs words keys most p f (disk (runs first).store)) (λ v. told_by (runs v)) (ring_does k disk runs words keys most p f (disk (runs first).store)) tells ring_lives ring_audits at_rest at_stop at_stage first

    abbrev AtStop : Type 0
    AtStop = StopShown k ring_kind disk (λ v. (runs v).store) keys most p f first (RingBehind k disk runs words keys most p f (disk (runs first).store)) (λ v. told_by (runs v)) (ring_does k disk runs words keys most p f (disk (runs first).store)) tells ring_lives ring_audits at_rest at_stop at_stage first

    rest_is : AtRest
    rest_is asked taken h so_far n v chain all drawn at = record {
      shown = refl;
      goes = at_rest (answered asked) taken _ h so_far n v drawn at [];
      noted = λ word_of s here tape m is. tt;
      gated = λ known m is opened. (calls_gated k disk runs words keys most p f first _ h n v at (chained asked v chain all known).0 (still_open asked v chain all known (suc h.generation) opened) m is).0;
    }

    stop_is : AtStop
    stop_is asked taken h so_far n v chain all drawn at call answer w one fault seen cut shown unanswered =
        let left = calls_noted k disk counts_now only_now runs words keys most p f first (answered asked) taken _ h n v drawn at call answer w one unanswered cut.0 fault seen cut.1 shown in
        record {
          shown = (cut.0, fault, cut.1, shown);
          goes = left.0;
          noted = left.1;
          gated = λ known m is opened. (calls_gated k disk runs words keys most p f first _ h n v at (chained asked v chain all known).0 (still_open asked v chain all known (suc h.generation) opened) m is).1 call answer w one unanswered cut.0 fault seen cut.1 shown;
        }

    abbrev pub IsRingLender : Type 1
    IsRingLender = IsLender k ring_kind disk (λ v. (runs v).store) keys most p f first (RingBehind k disk runs words keys most p f (disk (runs first).store)) (λ v. told_by (runs v)) (ring_does k disk runs words keys most p f (disk (runs first).store)) tells ring_lives ring_audits at_rest at_stop at_stage (f.run).sealer

    pub ring_serves : {U : Type 0} (beat : BeatKind) (threads : Bool) (shares : Shares) (kind : RunnerKind U (List ScriptTxn)) (means : RunsScripts kind) (script : Scripts) (sound : AreSound script)
        (may : MayOpen (setup_with p shares) (suc (f.run).epoch) (f.run).left script.clients) (trace : Trace) (runners : List U) (before : Flow) (end : RunState V U) (result : Result (Unit {0}) RunErr) (epoch left : ℕ)
        → trace.broken ≡ false → map kind.client runners ≡ script.clients → All (λ u. kind.plan u ≡ asks_by (kind.client u) script.txns) runners → epoch ≡ (f.run).epoch → left ≡ (f.run).left
        → RunsBy threads k kind beat (run_state (scene (new_desk (setup_with p shares) (suc epoch) left script.clients) first trace) runners before) end result
        → IsRingLender → RingAt k disk runs keys most p f (disk (runs first).store) (ring_public p f) (ring_hidden f) 0 first
        → (s : ServedOver ring_kind ring_lives ring_audits disk (manner beat threads most shares) keys p f (f.run).sealer script (told_by (runs end.scene.vault)) (runs first).store (runs end.scene.vault).store before end.output trace end.scene.trace (err_of result))
        × CallsBehind k first (calls s.is_served.served.evidence.acts) end.scene.vault (err_of result)
    ring_serves beat threads shares kind means script sound may trace runners before end result epoch left unbroken named planned epoch_is left_is run l begun =
        serves_on k ring_kind disk (λ v. (runs v).store) keys most p f first (RingBehind k disk runs words keys most p f (disk (runs first).store)) (λ v. told_by (runs v)) (ring_does k disk runs words keys most p f (disk (runs first).store)) tells ring_lives ring_audits at_rest at_stop at_stage
        beat threads shares kind means (f.run).sealer script sound may trace runners before end result epoch left unbroken named planned epoch_is left_is run l rest_is stop_is begun
