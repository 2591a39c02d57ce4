-- What the driver knows of the hall, between its turns and in them.
use Rattle.std.specs.Prelude.{◌≡◌, ◌≤◌, ◌-◌, ◌++◌, ℕ, zero, suc, true, false, All, List, [], flat_map, map, replicate, length, None, Option, Some}
use Rattle.ob_base.specs.declared.params.Params.{Params}
use Rattle.ob_base.specs.declared.fault.Fault.TheVariants.{Memory}
use Rattle.ob_serial.specs.Vaults.{VaultCounts}
use Rattle.ob_desk.specs.Desk as desk
use Rattle.ob_desk.specs.Desk.{DeskState, Call, Reply}
use Rattle.ob_turn.specs.History.{Reaches}
use Rattle.ob_turn.specs.TurnCalls.{IsInside}
use Rattle.ob_hall.specs.Turns.{IsTurn}
use Rattle.ob_hall.specs.Passes.{Steps, Hall, Pass, opening_of, pass_place, own_calls, may_raise, told_by, IsPassOf, IsOutOfTurn}
use Rattle.ob_hall.specs.Rounds.{Rounds, rounds_of, rounds_behind}

-- the hall's parameters
abbrev pub params_of : Hall → Params
params_of hall = (opening_of hall).setup.params

-- it stops no desk, but for want of memory
abbrev pub IsMild : Call × Reply → Type 0
IsMild (desk.Stop fault, reply) = fault ≡ Memory
IsMild (desk.Unsure fault, reply) = ⊥
IsMild _ = Unit {0}

-- how far the epochs are where the vault has come so far
abbrev pub resting : VaultCounts → Rounds
resting c = record { epoch = suc c.epoch; has_closed = false; due = None; left = c.left; flying = [] }

-- and with these keys in flight
abbrev pub fetching : VaultCounts → List ℕ → Rounds
fetching c keys = record { epoch = suc c.epoch; has_closed = false; due = None; left = c.left - 1; flying = keys }

-- and where an epoch was closed with these writes, that the vault hasn't ended yet, of so many batches each
abbrev pub ending : ℕ → VaultCounts → List (ℕ × Option (List ℕ)) → Rounds
ending batches c writes = record { epoch = suc (suc c.epoch); has_closed = true; due = Some (record { epoch = suc c.epoch; writes = writes }); left = batches; flying = [] }

-- how far the epochs are by the pass's own calls
abbrev pub rounds_by : Hall → Pass → Rounds
rounds_by hall pass = rounds_behind (params_of hall).batches (rounds_of (opening_of hall)) (own_calls pass)

-- It is the driver's pass, which has stopped no desk.
pub record IsDriver (hall : Hall) (pass : Pass) : Type 0 where
  pub own : IsPassOf hall pass
  pub place : pass_place pass ≡ zero
  pub raises : may_raise pass ≡ true
  pub mild : All IsMild (own_calls pass)

-- By its calls the hall's desk is where the vault is, with no epoch closed and no batch in flight; and the bell isn't above that.
pub record IsWhere (hall : Hall) (pass : Pass) (c : VaultCounts) : Type 0 where
  pub driver : IsDriver hall pass
  pub rounds : rounds_by hall pass ≡ resting c
  pub serves : c.spent ≡ false
  pub told : told_by pass ≤ c.epoch

-- So it is between its turns.
pub record IsBetweenTurns (hall : Hall) (pass : Pass) (c : VaultCounts) : Type 0 where
  pub at : IsWhere hall pass c
  pub idle : IsOutOfTurn pass

-- So it is but for a batch of these keys, which is in flight.
pub record IsOut (hall : Hall) (pass : Pass) (c : VaultCounts) (keys : List (Option ℕ)) : Type 0 where
  pub driver : IsDriver hall pass
  pub idle : IsOutOfTurn pass
  pub flying : List ℕ
  pub rounds : rounds_by hall pass ≡ fetching c flying
  pub keys_are : keys ≡ map Some flying ++ replicate ((params_of hall).places - length flying) None

-- It closed an epoch, with these writes, and has still to tell what came of its end.
pub record IsEnding (hall : Hall) (pass : Pass) (c : VaultCounts) (writes : List (ℕ × Option (List ℕ))) : Type 0 where
  pub driver : IsDriver hall pass
  pub idle : IsOutOfTurn pass
  pub rounds : rounds_by hall pass ≡ ending (params_of hall).batches c writes
  pub told : told_by pass ≤ c.epoch

-- ---- in a turn

-- the calls that the pass has noted in its turn
abbrev pub noted_by : Pass → Steps
noted_by pass = flat_map (λ (c : Steps). c) pass.seat.me.0.noted

-- The driver's pass is in its turn, and the history and what it noted lead to this desk.
pub record IsInTurn (hall : Hall) (pass : Pass) (d : DeskState) : Type 0 where
  pub own : IsPassOf hall pass
  pub place : pass_place pass ≡ zero
  pub inside : IsInside pass.seat
  pub value : Reaches IsTurn pass.seat.me.0 d
