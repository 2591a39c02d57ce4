-- What serving a script does to the store that a ring vault was lent, where the vault's words are those of what it runs with.
use Rattle.std.specs.Borrow.{GName}
use Rattle.std.proofs.Common.{false, ◌≡◌, ◌∙◌, ◌∷◌, ◌++◌, ◌<◌, ◌≤◌, ◌^◌, ℕ, suc, Bool, List, [], length, Option, Result, map, sym, ap, subst}
use Rattle.std.proofs.lemmas.List.Elements.{All-weaker}
use Rattle.ob_base.specs.declared.params.Params.{Params}
use Rattle.ob_io.specs.Streams.{Flow}
use Rattle.ob_seal.specs.Sealing.{Sealing}
use Rattle.ob_seal.specs.declared.keys.Keys.{Keys}
use Rattle.ob_store.specs.Calls.{GoesOn}
use Rattle.ob_store.specs.Disk.{Clock, Disk, Image, NotAfter}
use Rattle.ob_store.specs.Images.{IsImageOf, LeavesOnly}
use Rattle.ob_store.specs.Lines.{Trace}
use Rattle.ob_serial.specs.VaultKinds.{AllCalled, Kind}
use Rattle.ob_serial.specs.Vaults.{DoubtBy, End, Ended, Fetch, RefusedBy, Standing, Values, VaultAnswer, VaultCall, VaultState}
use Rattle.ob_fetch.specs.declared.run.Run.{Run}
use Rattle.ob_stand.specs.Stands.{StandsRing}
use Rattle.ob_recover.specs.declared.found.Found.{Found}
use Rattle.ob_pads.proofs.Chains.{numbered_runs, told_first}
use Rattle.ob_pads.specs.Lives.{Answers, LivesTo, Opens}
use Rattle.ob_vault.specs.RingVaults.{HasPlanned, RingHolds, RingSound, Running, lent_both}
use Rattle.ob_vault.proofs.SealCalls.{is_act}
use Rattle.ob_vault.proofs.Tapes.{tapes_stay}
use Rattle.ob_vault.specs.Kinds.{opened_with}
use Rattle.ob_vault.proofs.Begun.{held_with, holds_found, ring_begins_sound, ring_begun}
use Rattle.ob_vault.specs.RingKind.{GoesOnFrom, RingFound, ring_kind}
use Rattle.ob_vault.proofs.Calling.{RingBehind}
use Rattle.ob_vault.specs.Hidden.{RingHidden}
use Rattle.ob_vault.specs.RingSteps.{HasRingWords}
use Rattle.ob_vault.specs.Seen.{RingPublic}
use Rattle.ob_vault.specs.Shapes.{Shape}
use Rattle.ob_store.specs.declared.watch.Note.{Note}
use Rattle.ob_vault.specs.RingLives.{ring_lives}
use Rattle.ob_top.specs.Audited.{ring_audits}
use Rattle.ob_script.specs.Script.{ScriptTxn, Scripts, AreSound, asks_by}
use Rattle.ob_runner.proofs.Scripted.{is_its_script}
use Rattle.ob_runner.specs.RunnerViews.{runner_state, client_of, bound_of, plan_of, MayHaveMade}
use Rattle.ob_runner.specs.Runners.{AreRunners, IsNewOf}
use Rattle.ob_runner.specs.Turns.{IsScriptTurn}
use Rattle.ob_runner.specs.declared.runner.ScriptRunner.{ScriptRunner}
use Rattle.ob_desk.specs.Beats.{BeatKind}
use Rattle.ob_shares.specs.declared.shares.Shares.{Shares}
use Rattle.ob_shares.specs.Shares.{AreFitting}
use Rattle.ob_desk.specs.Desk.{DeskState, new_desk, setup_with}
use Rattle.ob_conduct.specs.Left.{Rests}
use Rattle.ob_conduct.specs.declared.run_err.RunErr.{RunErr}
use Rattle.ob_conduct.specs.Scenes.{RunnerKind, run_state, runner_kind, scene}
use Rattle.ob_run.specs.Threaded.{RunsBy}
use Rattle.ob_outcomes.proofs.Whole.{RunsScripts}
use Rattle.ob_conduct.specs.Records.{AreAnswered}
use Rattle.ob_top.specs.Endings.{err_of}
use Rattle.ob_top.specs.Runs.{LivesBehind, ServedOver}
use Rattle.ob_top.specs.Parts.{IsInClearBehind, manner}
use Rattle.ob_top.proofs.Opens.{may_open}
use Rattle.ob_conduct.specs.Acts.{calls}
use Rattle.ob_top.proofs.Clearing.{Parted, all_served, none_served, rest_clear, served_clear}
use Rattle.ob_top.proofs.RingServing.{IsRingLender, ring_serves, told_by}
use Rattle.ob_top.proofs.Serving.{CallsBehind}

pub rest_same : (a b : GName) (xs ys : List GName) → ◌≡◌ {A = List GName} (a ∷ xs) (b ∷ ys) → xs ≡ ys
rest_same a b xs ys is = cc is

abbrev pub script_kind : RunnerKind ScriptRunner (List ScriptTxn)
script_kind = runner_kind client_of bound_of plan_of MayHaveMade IsScriptTurn

pub runs_scripts : RunsScripts script_kind
runs_scripts = record { means = λ r said fit. is_its_script (runner_state r) said fit; turns = λ script client said steps turn. turn }

-- the words of a vault, told of what it runs with
pub record IsLent {V S : Type 0} (k : Kind V) (disk : S → Disk) (runs : V → Running S) : Type 1 where
  pub disk_is : (v : V) → (store : GName) × (tape : GName) × (k.disk v ≡ lent_both store tape (disk (runs v).store))
  pub holds : (v : V) (u : VaultState) → RingHolds (runs v).run (disk (runs v).store) u → k.holds v u
  pub sound : (v : V) (u : VaultState) → RingSound (runs v).run (disk (runs v).store) u → k.sound v u
  pub stands : (v : V) (i : Image) (at : Standing) → k.stands v i at → StandsRing ((runs v).run).sealer.keys ((runs v).run).params ((runs v).run).sealer.generation i at
  pub rests : Rests k

module _ {V S : Type 0} (k : Kind V) (disk : S → Disk) (counts_now : (x : S) (t : Clock) (c : Image) → NotAfter t (disk x).moment → (disk x).may_leave c → (disk x).left_since t c)
    (only_now : (x : S) (c : Image) → (disk x).left_since (disk x).moment c → (disk x).may_leave c) (runs : V → Running S) (words : HasRingWords k disk runs) (lent : IsLent k disk runs)
    (keys : Keys) (most : ℕ) (p : Params) (found : Found) (f : RingFound) (first : V) (goes : GoesOnFrom keys p found f) (run_is : (runs first).run ≡ f.run) (present_is : (runs first).present ≡ f.run.sealer.generation) where
  abbrev disk_of : V → Disk
  disk_of v = disk (runs v).store

  goes_on : (v w : V) → GoesOn (k.disk v) (k.disk w) → GoesOn (disk_of v) (disk_of w)
  goes_on v w one =
      let (a, b, v_is) = lent.disk_is v in
      let (c, d, w_is) = lent.disk_is w in
      let both = subst (λ (x : Disk). GoesOn x (lent_both c d (disk_of w))) v_is (subst (λ (x : Disk). GoesOn (k.disk v) x) w_is one) in
      record { anchors = rest_same _ _ _ _ (rest_same _ _ _ _ both.anchors); faults = both.faults; later = both.later; kept = both.kept; told = both.told; leaves = both.leaves; seen = both.seen }

  leaves_only : (v w : V) (P : Image → Type 0) → LeavesOnly (k.disk v) (k.disk w) P → LeavesOnly (disk_of v) (disk_of w) P
  leaves_only v w P one =
      let (a, b, v_is) = lent.disk_is v in
      let (c, d, w_is) = lent.disk_is w in
      let both = subst (λ (x : Disk). LeavesOnly x (lent_both c d (disk_of w)) P) v_is (subst (λ (x : Disk). LeavesOnly (k.disk v) x P) w_is one) in
      record { later = both.later; each = both.each; before = both.before; told = both.told }

  stands_found : (i : Image) (at : Standing) → k.stands first i at → StandsRing keys p f.run.sealer.generation i at
  stands_found i at stands =
      let by_run = subst (λ (r : Run). StandsRing r.sealer.keys r.params r.sealer.generation i at) run_is (lent.stands first i at stands) in
      subst (λ (x : Params). StandsRing keys x f.run.sealer.generation i at) goes.params (subst (λ (x : Keys). StandsRing x f.run.params f.run.sealer.generation i at) (ap (λ (x : Sealing). x.keys) goes.sealer) by_run)

  -- each call that was answered tells the cells again
  told_on : (v w : V) (steps : List (VaultCall × VaultAnswer)) → AllCalled k v steps w → AreAnswered steps → (disk_of v).tells → (disk_of w).tells
  told_on v w [] same all told = subst (λ (x : V). (disk_of x).tells) (sym same) told
  told_on v w ((Fetch asks, Values values) ∷ steps) (mid, one, rest) all told = told_on mid w steps rest all ((words.called v (Fetch asks) (Values values) one.notes mid one.called).tells told)
  told_on v w ((End writes, Ended) ∷ steps) (mid, one, rest) all told = told_on mid w steps rest all ((words.called v (End writes) Ended one.notes mid one.called).tells told)
  told_on v w ((Fetch asks, Ended) ∷ steps) chain all told = absurd all
  told_on v w ((Fetch asks, RefusedBy fault) ∷ steps) chain all told = absurd all
  told_on v w ((Fetch asks, DoubtBy fault) ∷ steps) chain all told = absurd all
  told_on v w ((End writes, Values values) ∷ steps) chain all told = absurd all
  told_on v w ((End writes, RefusedBy fault) ∷ steps) chain all told = absurd all
  told_on v w ((End writes, DoubtBy fault) ∷ steps) chain all told = absurd all

  acts : (v w : V) (call : VaultCall) (answer : VaultAnswer) (notes : List Note) → k.called v call answer notes w → (disk_of w).tells → Answers (disk_of v) (disk_of w) ((runs v).run).sealer ((runs w).run).sealer answer
  acts v w call answer notes does told = is_act disk (runs v) (runs w) notes (λ image left. only_now (runs v).store image left) call answer (words.called v call answer notes w does) told

  -- so many seals were made by then
  abbrev Sealed : RingHidden → V → Type 0
  Sealed h v = (q : RingPublic) × (so_far : List Shape) × (n : ℕ) × RingBehind k disk runs words keys most p f (disk (runs first).store) q h so_far n v

  numbered : (w : V) (asked : List (VaultCall × VaultAnswer)) (h : RingHidden) (err : Option RunErr) → Parted k first w asked err (Sealed h) → LivesBehind disk keys f.run.sealer (runs first).store (runs w).store (map (λ s. s.1) asked) h.seals
  numbered w asked h err part = λ old opens tells.
      subst (λ (l : List (VaultCall × VaultAnswer)). LivesTo disk keys old (runs w).store (map (λ s. s.1) l) h.seals) part.are
      (subst (λ (n : ℕ). LivesTo disk keys old (runs w).store (map (λ s. s.1) (part.front ++ part.rest)) n) part.is_at.3.sealed
      (numbered_runs k disk (λ v. (runs v).store) (λ v. ((runs v).run).sealer) acts keys old first part.mid w part.front part.rest tells
      (λ told. subst (λ (s : Sealing). Opens keys (disk old) (disk_of first) s) (sym (ap (λ (r : Run). r.sealer) run_is)) (opens told))
      part.called (all_served part.front part.answered) part.more (none_served part.rest err part.cut)))

  clear : (w : V) (asked : List (VaultCall × VaultAnswer)) (h : RingHidden) (err : Option RunErr) → Parted k first w asked err (Sealed h) → (disk_of w).tells → IsInClearBehind keys (disk_of first) (disk_of w) err
  clear w asked h err part tells =
      let keyed : ((runs first).run).sealer.keys ≡ keys = ap (λ (r : Run). r.sealer.keys) run_is ∙ ap (λ (x : Sealing). x.keys) goes.sealer in
      let told = told_first k disk (λ v. (runs v).store) (λ v. ((runs v).run).sealer) acts keys part.mid w part.rest tells part.more in
      let (front, now) = served_clear k disk (λ v. (runs v).store) (λ v. ((runs v).run).sealer) acts keys first part.mid part.front told part.called (all_served part.front part.answered) keyed in
      rest_clear k disk (λ v. (runs v).store) (λ v. ((runs v).run).sealer) acts keys (disk_of first) part.mid w front now tells part.rest err part.more part.cut

  lender : IsRingLender k disk counts_now only_now runs words keys most p f first run_is
  lender = record {
    faults = λ v. ap (λ (x : Disk). x.faults) (lent.disk_is v).2;
    goes = goes_on;
    since = leaves_only;
    now = λ v i image. subst (λ (x : Disk). IsImageOf x i) (sym (lent.disk_is v).2) image;
    stands = stands_found;
    only = λ w i. subst (λ (x : Disk). x.left_since x.moment i → x.may_leave i) (sym (lent.disk_is w).2) (λ left. only_now (runs w).store i left);
    rests = lent.rests;
    holds = λ m of.
        let by_run = lent.holds first (held_with f.run m) (subst (λ (r : Run). RingHolds r (disk_of first) (held_with f.run m)) (sym run_is) (holds_found keys p f (disk_of first) m goes.serving of)) in
        subst (λ (q : Params). k.holds first (opened_with q f.run.left (record { epoch = f.run.epoch; content = m }))) goes.params by_run;
    sound = λ at tells settled opened. lent.sound first (opened_with p f.run.left at) (subst (λ (r : Run). RingSound r (disk_of first) (opened_with p f.run.left at)) (sym run_is) (ring_begins_sound disk keys p f at (runs first).store goes.serving opened));
    stays = λ w steps called. tapes_stay k disk runs words first w steps called ∙ present_is;
    told = λ w steps called all. told_on first w steps called all;
    seals = λ w asked h err part. (numbered w asked h err part, clear w asked h err part);
  }

-- a run that was conducted over a vault that was just made of an opening
pub serves_lent : {V S : Type 0} (first : V) (k : Kind V) (beat : BeatKind) (threads : Bool) (p : Params) (shares : Shares) (script : Scripts) (trace : Trace) (runners : List ScriptRunner)
    (before : Flow) (last : V) (seen : Trace) (ran : List ScriptRunner) (after : Flow) (result : Result (Unit {0}) RunErr) (epoch left : ℕ)
    → ((new : DeskState) × RunsBy threads k script_kind beat (run_state (scene (new_desk (setup_with p shares) (suc epoch) left script.clients) first trace) runners before) (run_state (scene new last seen) ran after) result)
    → trace.broken ≡ false → AreSound script → AreFitting shares (length script.clients) p.places p.writes → AreRunners script runners
    → (disk : S → Disk) (counts_now : (x : S) (t : Clock) (c : Image) → NotAfter t (disk x).moment → (disk x).may_leave c → (disk x).left_since t c)
    (only_now : (x : S) (c : Image) → (disk x).left_since (disk x).moment c → (disk x).may_leave c) (runs : V → Running S) → HasRingWords k disk runs → IsLent k disk runs
    → (keys : Keys) (most : ℕ) (found : Found) (f : RingFound) (start : Run) → GoesOnFrom keys p found f → (runs first).run ≡ start → f.run ≡ start → epoch ≡ (runs first).run.epoch → left ≡ (runs first).run.left
    → start.epoch < 2 ^ 62 → start.left ≤ p.batches → (runs first).lanes ≡ most → (1 ≤ most) × (most ≤ 16) → HasPlanned f.run f.content f.records → (runs first).drawn ≡ [] → (runs first).present ≡ start.sealer.generation
    → (s : ServedOver ring_kind ring_lives ring_audits disk (manner beat threads most shares) keys p f f.run.sealer script (told_by (runs last)) (runs first).store (runs last).store before after trace seen (err_of result))
    × CallsBehind k first (calls s.is_served.served.evidence.acts) last (err_of result)
serves_lent first k beat threads p shares script trace runners before last seen ran after result epoch left done unbroken sound fit are disk counts_now only_now runs words lent keys most found f start goes is same epoch_is left_is small few lanes many has none present_is =
    let (new, run) = done in
    let run_is : (runs first).run ≡ f.run = is ∙ sym same in
    let may = may_open p shares f.run.epoch f.run.left script (subst (λ (r : Run). r.epoch < 2 ^ 62) (sym same) small) (subst (λ (r : Run). r.left ≤ p.batches) (sym same) few) sound fit in
    let planned = All-weaker (IsNewOf script) (λ r. plan_of r ≡ asks_by (client_of r) script.txns) (λ r n. n.plan) runners are.new in
    ring_serves k disk counts_now only_now runs words keys most p f first run_is beat threads shares script_kind runs_scripts script sound may trace runners before (run_state (scene new last seen) ran after) result epoch left
    unbroken are.clients_are planned (epoch_is ∙ ap (λ (r : Run). r.epoch) run_is) (left_is ∙ ap (λ (r : Run). r.left) run_is) run (lender k disk counts_now only_now runs words lent keys most p found f first goes run_is (present_is ∙ ap (λ (r : Run). r.sealer.generation) (sym same)))
    (ring_begun k disk runs keys most p found f first goes run_is lanes many has none (λ u holds. lent.holds first u (subst (λ (r : Run). RingHolds r (disk (runs first).store) u) (sym run_is) holds)))
