use Rattle.std.proofs.Common.{◌∙◌, Some, ap}
use Rattle.ob_script.specs.declared.line.Ending.TheVariants as ending
use Rattle.ob_runner.specs.declared.place.Wanted.TheVariants as wanted
use Rattle.ob_runner.specs.RunnerViews.{runner_state}
use Rattle.ob_runner.proofs.Wants.{wants_ask, wants_end, wants_abort}
use Rattle.ob_runner.proofs.runner.ScriptRunner.go_on.Goals as goal

pub make-requires-clause-ask : goal.make-requires-clause-ask
make-requires-clause-ask c = wants_ask (runner_state c.args.self.now) c.args.txn.now c.args.at c.requires.place c.in-Ask.ask c.in-Ask.next (c.wanted.ensures ∙ ap Some c.in-Ask.is)

pub commit-requires-clause-end : goal.commit-requires-clause-end
commit-requires-clause-end c = wants_end (runner_state c.args.self.now) c.args.txn.now c.args.at c.requires.place ending.Commit (c.wanted.ensures ∙ ap Some (c.in-End.is ∙ ap wanted.End c.in-Commit.is))

pub abort-requires-clause-end : goal.abort-requires-clause-end
abort-requires-clause-end c = wants_abort (runner_state c.args.self.now) c.args.txn.now c.args.at c.requires.place (c.wanted.ensures ∙ ap Some (c.in-End.is ∙ ap wanted.End c.in-Abort.is))

pub returns-in-Ask : goal.returns-in-Ask
returns-in-Ask c = c.make.ensures

pub returns-in-Commit : goal.returns-in-Commit
returns-in-Commit c = c.commit.ensures

pub returns-in-Abort : goal.returns-in-Abort
returns-in-Abort c = c.abort.ensures
