use Rattle.std.proofs.Common.{refl}
use Rattle.ob_hall.specs.Passes.{Pass, IsNumberTold}
use Rattle.ob_hall.proofs.Keeping.{told_own, told_stands, told_ready}
use Rattle.ob_hall.proofs.driver.Hall.durable.Goals as goal

pub returns : goal.returns
returns c =
    let after : Pass = record c.args.pass.now { ear = c.durable.new.seat } in
    let told : IsNumberTold c.args.pass.now after c.durable.result = record { reads = c.durable.ensures.durable_last_raised; seat = refl; client = refl; last = refl } in record {
      durable_last_raised = told;
      own = told_own c.args.self.now c.args.pass.now after c.durable.result c.requires.own told;
      ready = told_ready c.args.self.now c.args.pass.now after c.durable.result told;
      stands = told_stands c.args.pass.now after c.durable.result told;
    }
