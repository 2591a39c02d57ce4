use Rattle.std.proofs.Common.{map, take}
use Rattle.ob_base.specs.declared.params.Params.{Params}
use Rattle.ob_serial.specs.Vaults.{VaultCounts}
use Rattle.ob_conduct.specs.Ready.{IsBetweenActs}
use Rattle.ob_conduct.specs.Scenes.{runner_kind}
use Rattle.ob_conduct.specs.Moves.{Stepped}
use Rattle.ob_conduct.proofs.rounds.step_all.Given as goal

abbrev pub invariant-loop-i : goal.invariant-loop-i
invariant-loop-i g l = record {
  stepped : Stepped (runner_kind g.U.Runner.client g.U.Runner.bound g.U.Runner.plan g.U.Runner.fits g.U.Runner.turn) (take l.i (map g.U.Runner.client l.fn.runners)) l.fn.desk l.fn.runners l.desk l.runners;
  ready : (p : Params) (c : VaultCounts) → IsBetweenActs p l.fn.desk c → IsBetweenActs p l.desk c;
}
