use Rattle.std.proofs.Common.{refl}
use Rattle.ob_hall.specs.Passes.{Pass, IsRaised}
use Rattle.ob_hall.proofs.Keeping.{raised_own}
use Rattle.ob_hall.proofs.driver.Hall.raise.Goals as goal

pub raise-requires-clause-own : goal.raise-requires-clause-own
raise-requires-clause-own c = c.requires.own.ear.bell

pub raise-requires-clause-conductor : goal.raise-requires-clause-conductor
raise-requires-clause-conductor c = c.requires.driver

pub raise-requires-clause-rising : goal.raise-requires-clause-rising
raise-requires-clause-rising c = c.requires.rising

pub returns : goal.returns
returns c =
    let after : Pass = record c.args.pass.now { ear = c.raise.new.seat } in
    let raised : IsRaised c.args.pass.now after c.args.epoch = record { raises = c.raise.ensures.raised; seat = refl; client = refl; last = refl } in record {
      raised = raised;
      own = raised_own c.args.self.now c.args.pass.now after c.args.epoch c.requires.own raised;
    }
