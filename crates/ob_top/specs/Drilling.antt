-- How a self-test goes over a vault, step by step.
use Rattle.std.specs.Prelude.{suc, ◌≡◌, ◌⊎◌, ◌*◌, true, List, Result, Ok, Err, None}
use Rattle.std.specs.FinMap.{empty}
use Rattle.ob_base.specs.Causes.{Rose}
use Rattle.ob_base.specs.declared.params.Params.{Params}
use Rattle.ob_base.specs.declared.fault.Fault.{Fault}
use Rattle.ob_base.specs.declared.fault.Fault.TheVariants.{Memory}
use Rattle.ob_io.specs.Streams.{Flow, flow}
use Rattle.ob_store.specs.Calls.{IsStoreFault}
use Rattle.ob_store.specs.Disk.{Disk}
use Rattle.ob_seal.specs.declared.keys.Keys.{Keys}
use Rattle.ob_serial.specs.Vaults.{VaultCounts, VaultState}
use Rattle.ob_serial.specs.VaultKinds.{Kind}
use Rattle.ob_recover.specs.declared.found.Found.{Found}
use Rattle.ob_opening.specs.declared.opening.Opening.{Opening}
use Rattle.ob_recover.specs.Telling.{ArePhasesMade}
use Rattle.ob_twin.specs.declared.gates.Gates.{Gates}
use Rattle.ob_vault.specs.RingKind.{GoesOnFrom, IsRingMap, RingFound, ring_kind}
use Rattle.ob_vault.specs.RingVaults.{HasPlanned, run_over}
use Rattle.ob_script.specs.Script.{ScriptTxn, Scripts}
use Rattle.ob_runner.specs.declared.runner.ScriptRunner.{ScriptRunner}
use Rattle.ob_runner.specs.RunnerViews.{client_of, bound_of, plan_of, MayHaveMade}
use Rattle.ob_runner.specs.Turns.{IsScriptTurn}
use Rattle.ob_desk.specs.Beats.{BeatKind}
use Rattle.ob_desk.specs.Desk.{DeskState, new_desk, setup_of}
use Rattle.ob_conduct.specs.Acts.{fault_of}
use Rattle.ob_conduct.specs.declared.run_err.RunErr.{RunErr}
use Rattle.ob_conduct.specs.Scenes.{RunnerKind, run_state, runner_kind, scene}
use Rattle.ob_run.specs.Threaded.{RunsBy}
use Rattle.ob_drill.specs.Reading.{ReadsOnly, ReadingFails}
use Rattle.ob_drill.specs.Rows.{IsDigestOf}
use Rattle.ob_top.specs.declared.drill.Drilled.{Drilled}
use Rattle.ob_top.specs.Outside.{blind}

-- nothing is told of the output, which doesn't fail
abbrev pub no_output : Flow
no_output = flow None 0

abbrev pub script_runners : RunnerKind ScriptRunner (List ScriptTxn)
script_runners = runner_kind client_of bound_of plan_of MayHaveMade IsScriptTurn

-- memory was wanting, or the store failed
abbrev pub IsWant : Disk → Disk → Fault → Type 0
IsWant old new fault = (fault ≡ Memory) ⊎ (IsStoreFault fault × Rose old.faults new.faults)

-- The formatted store was opened: it holds no key, and its first epoch has all of its batches.
pub record IsOpenedEmpty {L : Type 0} (keys : Keys) (p : Params) (new : Disk) (f : RingFound) (o : Opening L) : Type 0 where
  pub found : Found
  pub goes_on : GoesOnFrom keys p found f
  pub planned : HasPlanned f.run f.content f.records
  pub run_is : f.run ≡ run_over o
  pub left : (f.run).left ≡ p.batches
  pub epoch : (f.run).epoch ≡ 0
  pub map : IsRingMap keys p new f empty

-- and these phases were seen of that
pub record OpensEmpty {L : Type 0} (keys : Keys) (p : Params) (old new : Disk) (f : RingFound) (o : Opening L) : Type 0 where
  pub opened : IsOpenedEmpty keys p new f o
  pub start : Gates
  pub seen : ArePhasesMade 4 (ring_kind.opens p f start) old.seen new.seen

module _ {V : Type 0} (k : Kind V) (counts : V → VaultCounts) (beat : BeatKind) (p : Params) (script : Scripts) (runners : List ScriptRunner) (old : V) where
  -- the script was run by threads over the vault, from a new desk on, and no watch was shown anything
  pub record WasRun (mid : V) (result : Result (Unit {0}) RunErr) : Type 0 where
    pub desk : DeskState
    pub ran : List ScriptRunner
    pub by : RunsBy true k script_runners beat (run_state (scene (new_desk (setup_of p) (suc (counts old).epoch) (counts old).left script.clients) old blind) runners no_output)
        (run_state (scene desk mid blind) ran no_output) result

  -- and then its map was read
  pub record HasDrilled (new : V) (d : Drilled) : Type 0 where
    pub mid : V
    pub run : WasRun mid (Ok tt)
    pub reads : ReadsOnly k (2 * p.keys) mid blind new blind
    pub epochs : d.epochs ≡ (counts mid).epoch
    pub digest : (v : VaultState) → k.holds mid v → IsDigestOf v.content p.keys d.digest

  -- the run failed, or the reading did
  abbrev pub DrillFails : V → Fault → Type 0
  DrillFails new fault = ((err : RunErr) × WasRun new (Err err) × (fault ≡ fault_of err)) ⊎ ((mid : V) × WasRun mid (Ok tt) × ReadingFails k (2 * p.keys) mid blind fault new blind)
