use Rattle.ob_runner.specs.RunnerViews.{runner_state}
use Rattle.ob_runner.proofs.Steps.{sum_completes, sum_takes, no_sum_aborts}
use Rattle.ob_runner.proofs.runner.ScriptRunner.add.Goals as goal

pub put-requires-clause-put : goal.put-requires-clause-put
put-requires-clause-put c = sum_completes (runner_state c.args.self.now) c.args.txn.now c.args.key c.args.sum.now c.in-Some.sum c.args.next c.requires.place c.in-Some.is

pub abort-requires-clause-end : goal.abort-requires-clause-end
abort-requires-clause-end c = no_sum_aborts (runner_state c.args.self.now) c.args.txn.now c.args.key c.args.sum.now c.args.next c.requires.place c.in-None.is

pub put-requires-clause-takes : goal.put-requires-clause-takes
put-requires-clause-takes c = sum_takes (runner_state c.args.self.now) c.args.txn.now c.args.key c.args.sum.now c.in-Some.sum c.args.next c.requires.place c.in-Some.is

pub returns-in-Some : goal.returns-in-Some
returns-in-Some c = c.put.ensures

pub returns-in-None : goal.returns-in-None
returns-in-None c = c.abort.ensures
