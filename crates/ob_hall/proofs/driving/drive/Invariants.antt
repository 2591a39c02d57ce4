use Rattle.std.proofs.Common.{◌≡◌}
use Rattle.ob_hall.specs.Passes.{said_of}
use Rattle.ob_hall.specs.Calling.{IsReady}
use Rattle.ob_hall.specs.Driving.{MakesSteps}
use Rattle.ob_hall.proofs.Stepping.{IsDriven}
use Rattle.ob_hall.proofs.driving.drive.Given as goal

abbrev pub invariant-loop : goal.invariant-loop
invariant-loop g l = record {
  driven : IsDriven l.fn.hall l.fn.pass l.pass;
  same : l.pass.client ≡ l.fn.pass.client;
  turns : MakesSteps (g.U.Runner.turn (g.U.Runner.plan l.fn.runner)) l.fn.pass l.pass;
  ready : IsReady l.fn.hall l.pass;
  fits : g.U.Runner.fits l.runner (said_of l.pass);
  client : g.U.Runner.client l.runner ≡ g.U.Runner.client l.fn.runner;
  bound : g.U.Runner.bound l.runner ≡ g.U.Runner.bound l.fn.runner;
  plan : g.U.Runner.plan l.runner ≡ g.U.Runner.plan l.fn.runner;
}
