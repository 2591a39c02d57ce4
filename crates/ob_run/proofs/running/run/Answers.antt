use Rattle.std.proofs.Common.{◌∙◌, length, ap}
use Rattle.std.proofs.lemmas.List.{length-map}
use Rattle.ob_run.proofs.running.run.Goals as goal

pub returns-then-threads-clause-done : goal.returns-then-threads-clause-done
returns-then-threads-clause-done g c = rw c.if-threads.true (rw (ap length c.requires.clients ∙ length-map c.args.runners.now.items g.U.Runner.client) at c.run_in_threads.ensures.done)

pub returns-else-threads-clause-done : goal.returns-else-threads-clause-done
returns-else-threads-clause-done g c = rw c.if-threads.false c.run_by_hand.ensures.done
