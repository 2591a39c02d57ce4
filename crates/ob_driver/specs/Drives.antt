-- What the driver did up to the end of its run.
use Rattle.std.specs.Prelude.{◌≡◌, ℕ, suc, true, false, All, List, flat_map}
use Rattle.ob_base.specs.declared.fault.Fault.TheVariants.{Memory}
use Rattle.ob_base.specs.declared.params.Params.{Params}
use Rattle.ob_serial.specs.Vaults.{VaultCounts}
use Rattle.ob_serial.specs.VaultKinds.{Kind}
use Rattle.ob_shares.specs.declared.shares.Shares.{Shares}
use Rattle.ob_desk.specs.Desk.{DeskState, new_desk, setup_with}
use Rattle.ob_desk.specs.Beats.{BeatKind}
use Rattle.ob_hall.specs.Passes.{Hall, Pass, opening_of, history_of, may_raise, IsLegal, IsRaised}
use Rattle.ob_hall.specs.Opening.{IsFreshPass}
use Rattle.ob_conduct.specs.declared.run_err.RunErr.{RunErr}
use Rattle.ob_conduct.specs.declared.run_err.RunErr.TheVariants as failed
use Rattle.ob_conduct.specs.Acts.{Act}
use Rattle.ob_conduct.specs.Records.{IsOver}
use Rattle.ob_conduct.specs.Rounds.{IsOneThing}
use Rattle.ob_driver.specs.Driven.{Side, side, Done, Fails}

-- these acts are things that the driver does, one behind the other
pub record AreThings (acts : List Act) : Type 0 where
  pub things : List (List Act)
  pub acts_are : acts ≡ flat_map (λ (thing : List Act). thing) things
  pub each : All IsOneThing things

-- things that the driver did, which nobody refused; and of which this is so, too
pub record DoneThings {V : Type 0} (k : Kind V) (beat : BeatKind) (hall : Hall) (Also : List Act → Type 0) (old : Side V) (c : VaultCounts) (new : Side V) (next : VaultCounts) : Type 0 where
  pub acts : List Act
  pub things : AreThings acts
  pub also : Also acts
  pub done : Done k beat hall old c new next acts

-- things that the driver did, of which the last one tells what cut the run off; and of which this is so, too
pub record FailsThings {V : Type 0} (k : Kind V) (beat : BeatKind) (hall : Hall) (Also : List Act → Type 0) (old : Side V) (c : VaultCounts) (new : Side V) (err : RunErr) : Type 0 where
  pub acts : List Act
  pub things : AreThings acts
  pub also : Also acts
  pub fails : Fails k beat hall old c new acts err

-- The history that the pass has seen leads to a desk that is over: each client has signed off, and no transaction waits for its epoch's end.
pub record IsOverAt (hall : Hall) (pass : Pass) : Type 0 where
  pub desk : DeskState
  pub legal : IsLegal hall (history_of pass) desk
  pub over : IsOver desk

-- The pass is the driver's and has made no call, at a hall whose desk was made where the vault is.
pub record IsFirstPass (hall : Hall) (pass : Pass) (p : Params) (c : VaultCounts) : Type 0 where
  pub fresh : IsFreshPass hall 0 pass
  pub raises : may_raise pass ≡ true
  pub shares : Shares
  pub clients : List ℕ
  pub opening : opening_of hall ≡ new_desk (setup_with p shares) (suc c.epoch) c.left clients
  pub serves : c.spent ≡ false

-- The bell was raised to the epoch that the vault's opening found; then things were done, up to the end of the run.
pub record RunsOut {V : Type 0} (k : Kind V) (beat : BeatKind) (hall : Hall) (Also : List Act → Type 0) (old : Side V) (c : VaultCounts) (new : Side V) (next : VaultCounts) : Type 0 where
  pub rung : Pass
  pub found : IsRaised old.pass rung c.epoch
  pub done : DoneThings k beat hall Also (side rung old.vault old.trace old.output) c new next
  pub over : IsOverAt hall new.pass

-- The bell was raised so; then things were done, of which the last one tells what cut the run off.
pub record RunFails {V : Type 0} (k : Kind V) (beat : BeatKind) (hall : Hall) (Also : List Act → Type 0) (old : Side V) (c : VaultCounts) (new : Side V) (err : RunErr) : Type 0 where
  pub rung : Pass
  pub found : IsRaised old.pass rung c.epoch
  pub fails : FailsThings k beat hall Also (side rung old.vault old.trace old.output) c new err

-- memory was wanting before anything was done
abbrev pub IsNotBegun : {V : Type 0} → Side V → Side V → RunErr → Type 0
IsNotBegun old new err = (err ≡ failed.Fault Memory) × (new ≡ old)
