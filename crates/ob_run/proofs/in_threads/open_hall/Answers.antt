use Rattle.std.proofs.Common.{arith}
use Rattle.ob_run.proofs.Opening.{taken_off, as_many}
use Rattle.ob_run.proofs.in_threads.open_hall.Goals as goal

pub returns-clause-passes : goal.returns-clause-passes
returns-clause-passes g c =
    taken_off c.in-Ok-new.hall c.args.clients.now c.in-Ok-new.passes.items c.remove-driver.result c.remove-driver.new.self.items c.in-Ok-new.ensures.passes c.remove-driver.ensures.value c.remove-driver.ensures.items

pub returns-clause-room : goal.returns-clause-room
returns-clause-room g c =
    let many = as_many c.in-Ok-new.hall c.args.clients.now c.remove-driver.result c.remove-driver.new.self.items (returns-clause-passes g c) in
    let old = c.in-Ok-new.passes.ok in
    let new = c.remove-driver.new.self.ok in
    let one = c.remove-driver.ensures.len in
    let kept = c.remove-driver.ensures.capacity in
    (c.in-Ok.ensures.capacity, omega (arith, many, old.0, old.1, new.0, one, kept))
