use Rattle.ob_session.specs.Steps.{steps_of}
use Rattle.ob_runner.proofs.Steps.{may_commit_it, commit_in, commit_steps}
use Rattle.ob_runner.specs.RunnerViews.{runner_state}
use Rattle.ob_runner.proofs.runner.ScriptRunner.commit.Goals as goal

pub commit-reply-requires : goal.commit-reply-requires
commit-reply-requires c = may_commit_it (runner_state c.args.self.now) c.args.desk.now c.args.desk.now c.args.txn.now c.requires.may c.requires.place c.requires.end

pub take_done-requires : goal.take_done-requires
take_done-requires c = commit_in (runner_state c.args.self.now) c.args.desk.now c.args.desk.now c.args.txn.now c.requires.may c.requires.place c.requires.end

pub returns : goal.returns
returns c = commit_steps (runner_state c.args.self.now) c.args.desk.now c.commit-reply.new.self c.args.txn.now c.requires.may c.requires.place c.requires.end c.commit-reply.result (steps_of c.one.result) (runner_state c.take_done.new.self)
    c.commit-reply.ensures.step c.one.ensures c.take_done.ensures
