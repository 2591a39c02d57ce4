use Rattle.std.proofs.Common.{refl}
use Rattle.ob_hall.specs.Passes.{Pass, LeavesTurn}
use Rattle.ob_hall.proofs.Keeping.{left_own, left_out}
use Rattle.ob_hall.proofs.driver.Hall.leave.Goals as goal

pub put-requires-clause-own : goal.put-requires-clause-own
put-requires-clause-own c = c.requires.own.seat

pub put-requires-clause-inside : goal.put-requires-clause-inside
put-requires-clause-inside c = c.requires.inside

pub put-requires-clause-value : goal.put-requires-clause-value
put-requires-clause-value c = c.requires.desk

pub returns : goal.returns
returns c =
    let after : Pass = record c.args.pass.now { seat = c.put.new.seat } in
    let left : LeavesTurn c.args.pass.now after c.args.last.value = record { ends = c.put.ensures.left; beside = record { ear = refl; client = refl; last = refl } } in record {
      left = left;
      own = left_own c.args.self.now c.args.pass.now after c.args.last.value c.requires.own left;
      idle = left_out c.args.self.now c.args.pass.now after c.args.last.value c.requires.own left;
    }
